-- The uniform that an instruction of a shader takes, and what is known while the instructions are read in order.
use Rattle.std.specs.Prelude.{ℕ, ◌≡◌, ◌≤◌, ◌+◌, ◌-◌, Bool, not, ◌&&◌, ◌||◌, nat_lt, List, Option, Some, None, if◌then◌else◌}
use Rattle.qpu_isa.specs.{Terms.tmu_writes, Terms.writes_s, Setups.takes_with}
use Rattle.shader_flow.specs.{Flow.end_of, Pending.takes, Pending.pending_of, Pending.count_of}
use Rattle.job_text.specs.declared.code.Taking.{Taking}

-- The number of the uniform that the instruction at i takes: how many are taken before it. Nothing past the two instructions
-- behind the program end, which are never executed.
unfoldable pub uniform_at : List ℕ → ℕ → Option ℕ
uniform_at code i = if takes code i then Some (count_of code i) else None

-- What is known before the instruction at i: how many uniforms are taken, how far behind the program end it is, and whether each
-- TMU keeps set-up words. No part of what the crate claims.
pub record IsTaking (code : List ℕ) (i : ℕ) (now : Taking) : Type 0 where
  pub count : now.count ≡ count_of code i
  pub behind : now.behind ≡ i - end_of code
  pub keeps0 : i ≤ end_of code + 3 → now.keeps0 ≡ nat_lt 0 (pending_of code 0 i)
  pub keeps1 : i ≤ end_of code + 3 → now.keeps1 ≡ nat_lt 0 (pending_of code 1 i)

abbrev pub as_number : Bool → ℕ
as_number is = if is then 1 else 0

unfoldable pub takes_now : Taking → ℕ → Bool
takes_now now word = nat_lt now.behind 3 && takes_with word (as_number now.keeps0) (as_number now.keeps1)

unfoldable pub keeps_next : ℕ → ℕ → Bool → Bool
keeps_next word tmu keeps = not (writes_s word tmu) && (keeps || nat_lt 0 (tmu_writes word tmu))
