-- The law: the jobs of a file that breaks no rule, and no strict one, do nothing that the hardware's guide forbids.
use Rattle.std.specs.Prelude.{◌≡◌, ◌<◌, ℕ, true, List, [], Some, None}
use Rattle.field_words.specs.{Questions.first_of, Words.IsBytes, declared.access.Access.Access}
use Rattle.machine_plan.specs.{Others.Happening, Others.OthersRun, Regions.Rights, Regions.Agree}
use Rattle.qpu_machine.specs.{declared.state.Qpu.Qpu, declared.state.Thread.Thread}
use Rattle.machine.specs.{State.State, State.Units, State.item_at, State.units_start, Step.Event, Step.ready, Step.turn}
use Rattle.job_format.specs.{Model.FileModel, Reading.file_at}
use Rattle.job_check.specs.Emit.{memory_of}
use Rattle.strict_check.specs.{Stages.strict_stages, Whole.strict_refusal_of}
use Rattle.promises.specs.{Holdings.fixed_of, Holdings.file_rights, Holdings.file_starts, Prepared.IsFaultless}
use Rattle.strict_law.specs.Lists.{BinsAsAllowed}
use Rattle.strict_law.specs.{Forbidden.Executes, Order.oldest_of, Order.orders_along, Roles.KeepsRole, Roles.roles_along, Slots.HasRoom, Slots.slots_along, Strict.NeverForbidden}
use Rattle.qpu_isa.specs.Terms.{loads}

-- the file breaks no strict rule
abbrev pub FileStrict : FileModel → Type 0
FileStrict f = first_of (strict_stages f) ≡ None

-- In each run from these units over this memory, also while others write: a load takes the oldest request that the processor has sent to
-- the texture unit and not loaded, both threads' counted.
pub record TakesOldest (rights : List Rights) (memory : List ℕ) (start : Units) : Type 0 where
  pub every_run : (happenings : List (Happening Event)) (found : List Access) (s : State)
      → OthersRun ready turn rights (record { memory = memory; units = start }) happenings found s
      → (event : Event) (q : Qpu) (t : Thread) (word : ℕ) → (one : Executes s event q t word)
      → (tmu : ℕ) → tmu < 2 → loads word tmu ≡ true
      → oldest_of (orders_along (record { memory = memory; units = start }) happenings (λ j n. []) one.k tmu) ≡ Some q.second

-- In each such run: an instruction that a thread executes uses nothing of programs of another kind than that as which it was started.
pub record KeepsRoles (rights : List Rights) (memory : List ℕ) (start : Units) : Type 0 where
  pub every_run : (happenings : List (Happening Event)) (found : List Access) (s : State)
      → OthersRun ready turn rights (record { memory = memory; units = start }) happenings found s
      → (event : Event) (q : Qpu) (t : Thread) (word : ℕ) → (one : Executes s event q t word)
      → KeepsRole (roles_along (record { memory = memory; units = start }) happenings (λ k second. None) one.k q.second) word

-- In each state to which such a run comes: a processor's requests, and the words that are kept for others, have room in its slots.
pub record HaveRoom (rights : List Rights) (memory : List ℕ) (start : Units) : Type 0 where
  pub every_run : (happenings : List (Happening Event)) (found : List Access) (s : State)
      → OthersRun ready turn rights (record { memory = memory; units = start }) happenings found s
      → (k : ℕ) (q : Qpu) → item_at s.units.qpus k ≡ Some q
      → HasRoom (slots_along (record { memory = memory; units = start }) happenings (λ j tmu second. []) k) q

-- So it is of the file's jobs, and no event is forbidden, nor a packet that a binner executes, from each memory of the emitted one's length
-- that has the emitted lists and the code of all jobs as the emitted one.
pub record FileObeys (f : FileModel) : Type 0 where
  pub never_forbidden : (m : List ℕ) → Agree (fixed_of f) (memory_of f) m
      → NeverForbidden (file_rights f) m (units_start (file_starts f))
  pub takes_oldest : (m : List ℕ) → Agree (fixed_of f) (memory_of f) m
      → TakesOldest (file_rights f) m (units_start (file_starts f))
  pub keeps_roles : (m : List ℕ) → Agree (fixed_of f) (memory_of f) m
      → KeepsRoles (file_rights f) m (units_start (file_starts f))
  pub bins_as_allowed : (m : List ℕ) → Agree (fixed_of f) (memory_of f) m
      → BinsAsAllowed (file_rights f) m (units_start (file_starts f))
  pub have_room : (m : List ℕ) → Agree (fixed_of f) (memory_of f) m
      → HaveRoom (file_rights f) m (units_start (file_starts f))

abbrev pub StrictFilesObey : Type 0
StrictFilesObey = (f : FileModel) → IsFaultless f → FileStrict f → FileObeys f

-- So it is of the file that any bytes hold which break no rule, the strict ones asked last.
abbrev pub StrictBytesObey : Type 0
StrictBytesObey = (bytes : List ℕ) → IsBytes bytes → strict_refusal_of bytes ≡ None → FileObeys (file_at bytes)
