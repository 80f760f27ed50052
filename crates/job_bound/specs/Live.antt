-- What a driver's job is bounded by, whatever else comes and goes, where its renderer stays at none of its items too often.
use Rattle.std.specs.Prelude.{◌≡◌, ◌≤◌, ℕ, ◌+◌, ◌*◌, false, List, [], ◌∷◌, length, Option}
use Rattle.job_format.specs.Model.{FileModel}
use Rattle.promises.specs.Days.{Day, Job, Happening, Steps as UnitSteps, Admits, after, dawn, happen}
use Rattle.promises.specs.{Bounded.file_loops, Bounded.longest_of, Bounded.job_bound, Drivers.AllDriverMay, Drivers.MaySubmit, Drivers.job_in}
use Rattle.promises.specs.{Steps.one_if}
use Rattle.day_law.specs.Day.{AllMayHappen}
use Rattle.day_ends.specs.Ends.{own_steps}
use Rattle.job_bound.specs.{Bound.bound_in, Items.unit_stays_at, Items.items_in, declared.bound.Bound.TheVariants.Steps}

-- In how many of the steps among what happens the renderer stays at item n of job j.
abbrev pub own_item_stay : (j n : ℕ) → Day → Happening → ℕ
own_item_stay j n d (UnitSteps event) = one_if (unit_stays_at j n d.state.units event.unit event.words)
own_item_stay j n d other = 0

abbrev pub own_item_stays : (j n : ℕ) → Day → List Happening → ℕ
own_item_stays j n d [] = 0
own_item_stays j n d (one ∷ later) = own_item_stay j n d one + own_item_stays j n (happen d one) later

-- Once the job is admitted, whatever happens: where its renderer stays at none of its items more than K times, at most so many steps are for
-- it, and K times w + 1 more for each of its items.
abbrev pub IsBoundedAt : Day → (w n items : ℕ) → Job → Type 0
IsBoundedAt d w n items job =
    (later : List Happening) (K : ℕ) → AllMayHappen (happen d (Admits job)) later
    → ((item : ℕ) → own_item_stays (length d.jobs) item (happen d (Admits job)) later ≤ K)
    → own_steps (length d.jobs) (happen d (Admits job)) later ≤ n + (1 + w) * (K * items)

-- So it is of job j of a file, which a driver may hand in at any time, where no shader that a handle of the file's jobs names has a loop.
unfoldable pub SubmissionsEndAtItems : Type 0
SubmissionsEndAtItems =
    (memory : List ℕ) (happenings : List Happening) (f : FileModel) (j : ℕ) → AllDriverMay (dawn memory) happenings
    → MaySubmit (after (dawn memory) happenings) f j → file_loops f ≡ false
    → IsBoundedAt (after (dawn memory) happenings) (longest_of f) (job_bound f j) (items_in f j) (job_in f j)

-- Where the bound of a file of one job is these numbers, they bound the job so, whenever a driver hands it in.
abbrev pub KeepsLive : FileModel → Type 0
KeepsLive f =
    (most w items : ℕ) (wait : Option ℕ) (memory : List ℕ) (happenings : List Happening) → bound_in f ≡ Steps most (w + 1) items wait
    → AllDriverMay (dawn memory) happenings → MaySubmit (after (dawn memory) happenings) f 0
    → IsBoundedAt (after (dawn memory) happenings) w most items (job_in f 0)
