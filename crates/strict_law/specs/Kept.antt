-- What is kept beside a machine's states, along a run of jobs that begin together, and where jobs come and go.
use Rattle.std.specs.Prelude.{ℕ, List, [], ◌∷◌, length}
use Rattle.field_words.specs.declared.access.Actor.{Actor}
use Rattle.machine_plan.specs.Others.{Happening as Sole, Steps as SoleSteps, Changes as SoleChanges, happen as sole_happens}
use Rattle.machine.specs.{State.State, State.Units, Step.Event, Step.turn}
use Rattle.promises.specs.Days.{Day, Happening, Steps, Changes, Finds, Admits, Retires, Resets, happen}

-- What is left of it by a step of a unit with these choice words over this memory, by the admission of the job of this number, and by a
-- reset. Nothing else changes it.
pub record Keeping (H : Type 0) : Type 0 where
  pub step : Units → Actor → List ℕ → List ℕ → H → H
  pub admit : ℕ → H → H
  pub reset : H → H

abbrev pub kept_next : {H : Type 0} → Keeping H → State → Sole Event → H → H
kept_next keeping s (SoleSteps event) kept = keeping.step s.units event.unit event.words s.memory kept
kept_next keeping s (SoleChanges m) kept = kept

abbrev pub kept_along : {H : Type 0} → Keeping H → State → List (Sole Event) → H → H
kept_along keeping s [] kept = kept
kept_along keeping s (one ∷ later) kept = kept_along keeping (sole_happens turn s one).state later (kept_next keeping s one kept)

abbrev pub kept_then : {H : Type 0} → Keeping H → Day → Happening → H → H
kept_then keeping d (Steps event) kept = keeping.step d.state.units event.unit event.words d.state.memory kept
kept_then keeping d (Changes m) kept = kept
kept_then keeping d (Finds k second files) kept = kept
kept_then keeping d (Admits job) kept = keeping.admit (length d.state.units.jobs) kept
kept_then keeping d (Retires j) kept = kept
kept_then keeping d Resets kept = keeping.reset kept

abbrev pub kept_of : {H : Type 0} → Keeping H → Day → List Happening → H → H
kept_of keeping d [] kept = kept
kept_of keeping d (one ∷ later) kept = kept_of keeping (happen d one) later (kept_then keeping d one kept)
