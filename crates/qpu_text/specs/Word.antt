-- The familiar text of an instruction.
use Rattle.std.specs.Prelude.{ℕ, List, if◌then◌else◌}
use Rattle.qpu_isa.specs.Terms.{is_load_imm, is_branch}
use Rattle.qpu_text.specs.{Alu.alu_text, Branch.branch_text, Load.load_text}

unfoldable pub familiar_text : ℕ → List ℕ
familiar_text word = if is_branch word then branch_text word else (if is_load_imm word then load_text word else alu_text word)
