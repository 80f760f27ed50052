-- The book that the code keeps, and when it stands for what a list of calls did.
use Rattle.std.specs.Prelude.{◌≡◌, ◌≤◌, ◌<◌, ℕ, ◌+◌, ◌==◌, List, [], ◌∷◌, Option, Some, None, length, slice_index, slice_set, if◌then◌else◌}
use Rattle.overflow_slots.specs.{declared.call.Call.Call, SlotRun.Held, SlotRun.Run, SlotRun.holds, SlotRun.after, Search.first_where}

-- For each slot who holds it: 0, or the job's number and one. For each job 0, or its newest slot's number and one; and how many
-- bytes of that slot are used.
pub record Desk : Type 0 where
  pub slots : ℕ
  pub owners : List ℕ
  pub newest : List ℕ
  pub used : List ℕ

abbrev pub IsNewest : List Held → ℕ → ℕ → Type 0
IsNewest [] newest used = newest ≡ 0
IsNewest (one ∷ others) newest used = (newest ≡ one.slot + 1) × (used ≡ one.used)

-- the book says what the run has
pub record Agrees (run : Run) (desk : Desk) : Type 0 where
  pub slots : desk.slots ≡ run.slots
  pub few : desk.slots ≤ 32
  pub owners_size : length desk.owners ≡ 32
  pub newest_size : length desk.newest ≡ 32
  pub used_size : length desk.used ≡ 32
  pub newest : (job : ℕ) → job < 32 → IsNewest (run.held job) (slice_index desk.newest job) (slice_index desk.used job)
  pub owners : (slot job : ℕ) → slot < 32 → job < 32 → holds slot (run.held job) ≡ (slice_index desk.owners slot == job + 1)
  pub known : (slot : ℕ) → slot < 32 → slice_index desk.owners slot ≤ 32

-- A call's answer is that of the run, whatever run the book stands for, and the book then stands for the run after the call.
abbrev pub Answers : {A : Type 0} → (Run → A) → Call → A → Desk → Desk → Type 0
Answers answer call result old new = (run : Run) → Agrees run old → (result ≡ answer run) × Agrees (after run call) new

abbrev pub free_slot : Desk → Option ℕ
free_slot desk = first_where (λ slot. slice_index desk.owners slot == 0) 0 desk.slots

-- the slot has become the job's newest
abbrev pub with_slot : Desk → ℕ → ℕ → Option ℕ → Desk
with_slot desk job used None = desk
with_slot desk job used (Some slot) = record {
  slots = desk.slots;
  owners = slice_set desk.owners slot (job + 1);
  newest = slice_set desk.newest job (slot + 1);
  used = slice_set desk.used job used;
}

-- what one holds is free, and nothing else changed
abbrev pub AreFreed : ℕ → List ℕ → List ℕ → Type 0
AreFreed owner old new = (slot : ℕ) → slot < 32 → slice_index new slot ≡ (if slice_index old slot == owner then 0 else slice_index old slot)
