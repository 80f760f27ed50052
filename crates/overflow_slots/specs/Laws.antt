-- What is true after any list of calls: no slot belongs to two jobs, and blocks lie apart, each in a slot of its own job past the
-- bytes that the slot's front takes.
use Rattle.std.specs.{Prelude.◌≡◌, Prelude.◌≤◌, Prelude.◌<◌, Prelude.◌⊎◌, Prelude.ℕ, Prelude.◌+◌, Prelude.true, Prelude.List, Prelude.[], Prelude.◌∷◌, List.AllByRecursion}
use Rattle.field_words.specs.Sizes.{slot_size}
use Rattle.overflow_slots.specs.{declared.pool.Block.Block, declared.call.Call.Call, Calls.IsInRange, SlotRun.Held, SlotRun.Run, SlotRun.holds, SlotRun.start, SlotRun.run_of, SlotRun.block_size}

-- no slot belongs to two jobs
abbrev pub NoneShared : Run → Type 0
NoneShared run = (slot job other : ℕ) → job < 32 → other < 32 → holds slot (run.held job) ≡ true → holds slot (run.held other) ≡ true → job ≡ other

-- the block lies in this slot, past its front, in bytes that are used
pub record LiesIn (block : Block) (one : Held) : Type 0 where
  pub slot : block.slot ≡ one.slot
  pub front : one.front ≤ block.at
  pub used : block.at + block_size ≤ one.used
  pub inside : block.at + block_size ≤ slot_size

-- the block lies in one of these slots
abbrev pub LiesInOne : List Held → Block → Type 0
LiesInOne [] block = ⊥
LiesInOne (one ∷ others) block = LiesIn block one ⊎ LiesInOne others block

-- the blocks have no byte in common
abbrev pub AreApart : Block → Block → Type 0
AreApart block other = (block.slot ≡ other.slot → ⊥) ⊎ ((block.at + block_size ≤ other.at) ⊎ (other.at + block_size ≤ block.at))

-- each two of a list
abbrev pub AllApart : List Block → Type 0
AllApart [] = Unit {0}
AllApart (block ∷ blocks) = AllByRecursion (AreApart block) blocks × AllApart blocks

-- the book of the slots is in order
pub record IsOrdered (run : Run) : Type 0 where
  pub none_shared : NoneShared run
  pub lie : (job : ℕ) → job < 32 → AllByRecursion (LiesInOne (run.held job)) (run.blocks job)
  pub own_apart : (job : ℕ) → job < 32 → AllApart (run.blocks job)
  pub apart : (job other : ℕ) → job < 32 → other < 32 → (job ≡ other → ⊥)
      → AllByRecursion (λ block. AllByRecursion (AreApart block) (run.blocks other)) (run.blocks job)

-- after any list of calls on any number of slots
abbrev pub StaysOrdered : Type 0
StaysOrdered = (slots : ℕ) (calls : List Call) → AllByRecursion IsInRange calls → IsOrdered (run_of (start slots) calls)
