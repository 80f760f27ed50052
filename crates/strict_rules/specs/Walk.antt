-- What the walk carries before the instruction at an index, and what it looks ahead for. No part of what the crate claims.
use Rattle.std.specs.Prelude.{◌≡◌, ◌≤◌, ◌<◌, ℕ, ◌*◌, ◌&&◌, List, length, nat_lt, if◌then◌else◌}
use Rattle.shader_flow.specs.{Flow.word, Flow.checked_of, Flow.IsFlow, Pending.pending_of}
use Rattle.shader_flow.specs.declared.state.Flow.{Flow}
use Rattle.strict_rules.specs.{declared.state.Unit.Unit as Kept, declared.state.Walked.Walked, Queue.queue_of, Queue.last_act}
use Rattle.qpu_isa.specs.Terms.{loads}

-- of one TMU
pub record IsKept (code : List ℕ) (tmu at : ℕ) (unit : Kept) : Type 0 where
  pub words : unit.pending ≡ pending_of code tmu at
  pub bound : unit.pending ≤ 2 * at
  pub requests : unit.queue.items ≡ queue_of code tmu at

pub record IsWalked (code : List ℕ) (at : ℕ) (walked : Walked) : Type 0 where
  pub first : IsKept code 0 at walked.unit0
  pub second : IsKept code 1 at walked.unit1
  pub last : walked.acted ≡ last_act code at

-- a checked instruction, with what is known before it
pub record IsHere (code : List ℕ) (flow : Flow) (at : ℕ) (walked : Walked) : Type 0 where
  pub inside : at < checked_of code
  pub fits : at < length code
  pub made : IsFlow code flow
  pub known : IsWalked code at walked

-- how many loads from a TMU an instruction makes, which is none past the checked ones
unfoldable pub load_count : List ℕ → ℕ → ℕ → ℕ
load_count code tmu i = if nat_lt i (checked_of code) && loads (word code i) tmu then 1 else 0
