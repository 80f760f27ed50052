-- A job that comes among others is bounded: its own steps are no more than its lists and programs say, whatever else comes and goes.
use Rattle.std.specs.Prelude.{◌≤◌, ℕ, ◌+◌, ◌*◌, ◌==◌, ◌&&◌, Bool, List, [], ◌∷◌, length}
use Rattle.machine.specs.{State.State, Step.Event, Step.unit_job}
use Rattle.ends_law.specs.Ends.{JobShort}
use Rattle.promises.specs.Days.{Day, Job, Happening, Steps, Admits, after, dawn, happen}
use Rattle.promises.specs.Steps.{unit_stays, one_if}
use Rattle.day_law.specs.Day.{MayAdmit, AllMayHappen}

-- the unit steps for job j
abbrev pub is_for : ℕ → State → Event → Bool
is_for j s event = unit_job s.units event.unit == j

-- How many of the steps among what happens are for job j, and in how many of these its renderer stays at an item.
abbrev pub own_step : ℕ → Day → Happening → ℕ
own_step j d (Steps event) = one_if (is_for j d.state event)
own_step j d other = 0

abbrev pub own_stay : ℕ → Day → Happening → ℕ
own_stay j d (Steps event) = one_if (is_for j d.state event && unit_stays d.state.units event.unit event.words)
own_stay j d other = 0

abbrev pub own_steps : ℕ → Day → List Happening → ℕ
own_steps j d [] = 0
own_steps j d (one ∷ later) = own_step j d one + own_steps j (happen d one) later

abbrev pub own_stays : ℕ → Day → List Happening → ℕ
own_stays j d [] = 0
own_stays j d (one ∷ later) = own_stay j d one + own_stays j (happen d one) later

-- Over the memory as it is now, the job begins with two lists that take at most n steps, and with programs that take at most w each.
abbrev pub IsShortNow : Day → (w n : ℕ) → Job → Type 0
IsShortNow d w n job = JobShort (job.rights ∷ []) (λ number. job.plain) d.state.memory w 0 n job.start

-- Once it is admitted, whatever happens: at most n steps are for it, and w + 1 more for each in which its renderer stays at an item.
abbrev pub IsBounded : Day → (w n : ℕ) → Job → Type 0
IsBounded d w n job =
    (later : List Happening) → AllMayHappen (happen d (Admits job)) later
    → own_steps (length d.jobs) (happen d (Admits job)) later ≤ n + (1 + w) * own_stays (length d.jobs) (happen d (Admits job)) later

-- So it is of each job that may be admitted, after whatever may happen to a machine.
abbrev pub AdmittedJobsEnd : Type 0
AdmittedJobsEnd =
    (memory : List ℕ) (happenings : List Happening) (job : Job) (w n : ℕ) → AllMayHappen (dawn memory) happenings
    → MayAdmit (after (dawn memory) happenings) job → IsShortNow (after (dawn memory) happenings) w n job
    → IsBounded (after (dawn memory) happenings) w n job
