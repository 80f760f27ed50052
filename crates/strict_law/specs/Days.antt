-- The law for a machine whose jobs come and go.
use Rattle.std.specs.Prelude.{ℕ, List, [], ◌∷◌}
use Rattle.machine.specs.Step.{Event}
use Rattle.day_law.specs.Day.{AllMayHappen}
use Rattle.promises.specs.Days.{Day, Happening, Steps, Changes, Finds, Admits, Retires, Resets, after, dawn, happen}
use Rattle.strict_law.specs.{Forbidden.IsForbidden, Strict.JobStrict}

-- a job that is admitted is strict over the memory as it is then, as if it were alone
abbrev pub AdmitsStrict : Day → Happening → Type 0
AdmitsStrict d (Steps event) = Unit {0}
AdmitsStrict d (Changes m) = Unit {0}
AdmitsStrict d (Finds k second files) = Unit {0}
AdmitsStrict d (Admits job) = JobStrict (job.rights ∷ []) (λ number. job.plain) d.state.memory 0 job.start
AdmitsStrict d (Retires j) = Unit {0}
AdmitsStrict d Resets = Unit {0}

-- so is each job that is
abbrev pub AdmitStrict : Day → List Happening → Type 0
AdmitStrict d [] = Unit {0}
AdmitStrict d (one ∷ later) = AdmitsStrict d one × AdmitStrict (happen d one) later

-- After whatever may happen to a machine to which only strict jobs are admitted, in any order, and for ever, no event is forbidden.
abbrev pub StrictDaysObey : Type 0
StrictDaysObey =
    (memory : List ℕ) (happenings : List Happening) → AllMayHappen (dawn memory) happenings → AdmitStrict (dawn memory) happenings
    → (event : Event) → IsForbidden (after (dawn memory) happenings).state event → ⊥
