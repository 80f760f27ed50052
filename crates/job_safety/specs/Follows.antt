-- What follows of each safe file.
use Rattle.std.specs.Prelude.{List, ℕ}
use Rattle.field_words.specs.declared.access.Access.{Access}
use Rattle.job_format.specs.Model.{FileModel}
use Rattle.job_check.specs.Emit.{memory_of}
use Rattle.machine_plan.specs.{Others.Happening, Others.OthersRun, Others.IsLeft, Regions.IsOutside, Regions.IsKept, Regions.Agree}
use Rattle.machine_plan.specs.World.{IsSafeRun}
use Rattle.machine.specs.{State.State, State.start_of, Step.Event, Step.ready, Step.turn, Step.IsRun}
use Rattle.promises.specs.Holdings.{plain_of, fixed_of, file_rights, file_starts}
use Rattle.promises.specs.Sound.{TexturesReadIn}
use Rattle.job_safety.specs.{Safe.AreSafe, Safe.AreSame, Files.IsSafeFile}

-- the memory has the lists and the code of all jobs as they are emitted
abbrev pub HasListsAndCode : FileModel → List ℕ → Type 0
HasListsAndCode f m = Agree (fixed_of f) (memory_of f) m

-- every run in which nobody else writes is safe, and depends on nothing outside
abbrev pub IsSafeAlone : FileModel → List ℕ → Type 0
IsSafeAlone f m = AreSafe (file_rights f) m (file_starts f) × AreSame (file_rights f) m (file_starts f)

-- every run is safe in which others write what some job may write, and nothing else
abbrev pub IsSafeWithOthers : FileModel → List ℕ → Type 0
IsSafeWithOthers f m =
    (happenings : List (Happening Event)) (found : List Access) (t : State)
    → OthersRun ready turn (file_rights f) (start_of m (file_starts f)) happenings found t
    → ((p : ℕ) → IsOutside (file_rights f) p → IsLeft turn p (start_of m (file_starts f)) happenings)
    → IsSafeRun (file_rights f) m found t.memory

-- From the emitted memory all is safe and depends on nothing else. So it is from each of its length in which every byte outside what the
-- jobs may write is as emitted, and from each that has their lists and code. From each of these it is safe also while others write what
-- jobs may write; and in each state to which a run comes, what a texture unit does reads inside one data buffer that a handle of its job
-- names.
pub record Follows (f : FileModel) : Type 0 where
  pub emitted : IsSafeAlone f (memory_of f)
  pub whatever_it_holds : (m : List ℕ) → IsKept (file_rights f) (memory_of f) m → IsSafeAlone f m
  pub anywhere : (m : List ℕ) → HasListsAndCode f m → IsSafeAlone f m
  pub while_others_write : (m : List ℕ) → HasListsAndCode f m → IsSafeWithOthers f m
  pub textures : (m : List ℕ) → HasListsAndCode f m
      → (events : List Event) (found : List Access) (t : State) → IsRun (start_of m (file_starts f)) events found t
      → TexturesReadIn (plain_of f) t

-- It follows of each file that is safe.
abbrev pub SafeFilesFollow : Type 0
SafeFilesFollow = (f : FileModel) → IsSafeFile f → Follows f
