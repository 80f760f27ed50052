-- A word as a row of fields without gaps, from the highest bit down: only the widths matter.
use Rattle.std.specs.Prelude.{ℕ, ◌+◌, ◌*◌, ◌/◌, ◌%◌, ◌^◌, List, [], ◌∷◌}
use Rattle.qpu_isa.specs.{declared.inst.Alu.Alu, declared.inst.LoadImm.LoadImm, declared.inst.Branch.Branch, Inst.bit}

-- how many bits fields of these widths take
unfoldable pub width_of : List ℕ → ℕ
width_of [] = 0
width_of (width ∷ widths) = width + width_of widths

-- the lowest fields of a word, of these widths
unfoldable pub values_of : List ℕ → ℕ → List ℕ
values_of [] word = []
values_of (width ∷ widths) word = word / 2 ^ width_of widths % 2 ^ width ∷ values_of widths word

-- the word that has these fields below what stands above
unfoldable pub fields_joined : ℕ → List ℕ → List ℕ → ℕ
fields_joined above [] values = above
fields_joined above (width ∷ widths) [] = above
fields_joined above (width ∷ widths) (value ∷ values) = fields_joined (above * 2 ^ width + value) widths values

-- an ALU instruction's fields from bit 63 down, and the others' from bit 59 down, below the signal
abbrev pub alu_widths : List ℕ
alu_widths = 4 ∷ 3 ∷ 1 ∷ 4 ∷ 3 ∷ 3 ∷ 1 ∷ 1 ∷ 6 ∷ 6 ∷ 3 ∷ 5 ∷ 6 ∷ 6 ∷ 3 ∷ 3 ∷ 3 ∷ 3 ∷ []

abbrev pub load_imm_widths : List ℕ
load_imm_widths = 3 ∷ 1 ∷ 4 ∷ 3 ∷ 3 ∷ 1 ∷ 1 ∷ 6 ∷ 6 ∷ 32 ∷ []

abbrev pub branch_widths : List ℕ
branch_widths = 4 ∷ 4 ∷ 1 ∷ 1 ∷ 5 ∷ 1 ∷ 6 ∷ 6 ∷ 32 ∷ []

unfoldable pub alu_values : Alu → List ℕ
alu_values alu =
    alu.sig ∷ alu.unpack ∷ bit alu.pm ∷ alu.pack ∷ alu.cond_add ∷ alu.cond_mul ∷ bit alu.sf ∷ bit alu.ws
    ∷ alu.waddr_add ∷ alu.waddr_mul ∷ alu.op_mul ∷ alu.op_add ∷ alu.raddr_a ∷ alu.raddr_b ∷ alu.add_a
    ∷ alu.add_b ∷ alu.mul_a ∷ alu.mul_b ∷ []

unfoldable pub load_imm_values : LoadImm → List ℕ
load_imm_values load =
    load.mode ∷ bit load.pm ∷ load.pack ∷ load.cond_add ∷ load.cond_mul ∷ bit load.sf ∷ bit load.ws
    ∷ load.waddr_add ∷ load.waddr_mul ∷ load.imm ∷ []

unfoldable pub branch_values : Branch → List ℕ
branch_values branch =
    branch.spare ∷ branch.cond ∷ bit branch.relative ∷ bit branch.register ∷ branch.raddr ∷ bit branch.ws
    ∷ branch.waddr_add ∷ branch.waddr_mul ∷ branch.imm ∷ []
