-- Instructions that write registers alone: most rules needn't be asked of them. No part of what the crate claims.
use Rattle.std.specs.Prelude.{ℕ, ◌==◌, Bool, ◌&&◌, ◌||◌, nat_lt}
use Rattle.qpu_isa.specs.{Word.waddr_add_of, Word.waddr_mul_of, Terms.is_branch}

-- write addresses below 36 are registers, and 39 is nothing
unfoldable pub is_register_address : ℕ → Bool
is_register_address address = nat_lt address 36 || address == 39

-- neither unit writes a TMU, the uniforms' address or a register that reaches other units
unfoldable pub writes_registers : ℕ → Bool
writes_registers word = is_branch word || (is_register_address (waddr_add_of word) && is_register_address (waddr_mul_of word))
