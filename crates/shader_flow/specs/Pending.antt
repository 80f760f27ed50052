-- The setup words that a texture unit keeps, and the uniforms that a shader takes.
use Rattle.std.specs.Prelude.{ℕ, zero, suc, ◌+◌, Bool, ◌&&◌, List, nat_lt, if◌then◌else◌}
use Rattle.qpu_isa.specs.{Terms.tmu_writes, Terms.writes_s, Setups.takes_with}
use Rattle.shader_flow.specs.Flow.{word, checked_of}

-- How many setup words a TMU keeps before the instruction at i: its writes of that TMU since the last write of S. What stands
-- past the checked instructions is never executed, and changes nothing.
unfoldable pub pending_of : List ℕ → ℕ → ℕ → ℕ
pending_of code tmu zero = 0
pending_of code tmu (suc i) =
    if nat_lt i (checked_of code)
    then (if writes_s (word code i) tmu then 0 else pending_of code tmu i + tmu_writes (word code i) tmu)
    else pending_of code tmu i

-- the instruction at i is checked, and takes a uniform
unfoldable pub takes : List ℕ → ℕ → Bool
takes code i = nat_lt i (checked_of code) && takes_with (word code i) (pending_of code 0 i) (pending_of code 1 i)

-- how many uniforms the instructions before i take
unfoldable pub count_of : List ℕ → ℕ → ℕ
count_of code zero = 0
count_of code (suc i) = count_of code i + (if takes code i then 1 else 0)
