-- What the numbers that are printed mean.
use Rattle.std.specs.Prelude.{◌≡◌, ◌≤◌, ℕ, ◌+◌, ◌*◌, List, Option, None}
use Rattle.field_words.specs.{declared.access.Access.Access, Words.IsBytes}
use Rattle.machine_plan.specs.{Others.Happening, Others.OthersRun, Regions.Rights, Regions.Agree}
use Rattle.machine.specs.{State.Units, State.State, State.units_start, Step.Event, Step.ready, Step.turn}
use Rattle.job_format.specs.{Model.FileModel, Reading.file_at}
use Rattle.job_check.specs.{Emit.memory_of, Whole.refusal_of}
use Rattle.promises.specs.{Holdings.fixed_of, Holdings.file_rights, Holdings.file_starts, Steps.step_count, Steps.stay_count, Finished.Finishes}
use Rattle.job_bound.specs.{Bound.bound_in, Items.item_stays, declared.bound.Bound.TheVariants.Steps}

-- Each run from these units over this memory, whichever unit steps next, whatever words answer it, and also while others write, has at most
-- so many steps, and so many more for each in which a renderer stays at an item; and no more items are stayed at than `items`, so that there
-- is an end to it where a renderer stays at none of them oftener than K times.
pub record RunsWithin (rights : List Rights) (memory : List ℕ) (start : Units) (most stay items : ℕ) : Type 0 where
  pub every_run : (happenings : List (Happening Event)) (found : List Access) (t : State)
      → OthersRun ready turn rights (record { memory = memory; units = start }) happenings found t
      → step_count happenings ≤ most + stay * stay_count (record { memory = memory; units = start }) happenings
  pub at_items : (happenings : List (Happening Event)) (found : List Access) (t : State) (K : ℕ)
      → OthersRun ready turn rights (record { memory = memory; units = start }) happenings found t
      → ((j n : ℕ) → item_stays j n (record { memory = memory; units = start }) happenings ≤ K)
      → step_count happenings ≤ most + stay * (K * items)

-- Where the bound of a file is these numbers, each run of its jobs keeps to them, from each memory that has their emitted lists and their code.
abbrev pub KeepsBound : FileModel → Type 0
KeepsBound f =
    (most stay items : ℕ) (wait : Option ℕ) → bound_in f ≡ Steps most stay items wait → (m : List ℕ) → Agree (fixed_of f) (memory_of f) m
    → RunsWithin (file_rights f) m (units_start (file_starts f)) most stay items

-- Where no instruction may wait besides, each such run that has come to where no unit may step has finished, or the binner's job waits for
-- room in its tile slot.
abbrev pub KeepsEnd : FileModel → Type 0
KeepsEnd f =
    (most stay items : ℕ) → bound_in f ≡ Steps most stay items None → (m : List ℕ) → Agree (fixed_of f) (memory_of f) m
    → Finishes (file_rights f) m (units_start (file_starts f))

-- So it is whatever bytes they are, where no rule of them is broken.
unfoldable pub BoundHolds : Type 0
BoundHolds = (bytes : List ℕ) → IsBytes bytes → refusal_of bytes ≡ None → KeepsBound (file_at bytes)

unfoldable pub EndHolds : Type 0
EndHolds = (bytes : List ℕ) → IsBytes bytes → refusal_of bytes ≡ None → KeepsEnd (file_at bytes)
