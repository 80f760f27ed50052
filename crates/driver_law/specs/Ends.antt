-- What a driver's job is bounded by, whatever else comes and goes.
use Rattle.std.specs.Prelude.{◌≡◌, ℕ, false, List}
use Rattle.job_format.specs.Model.{FileModel}
use Rattle.promises.specs.{Bounded.file_loops, Bounded.longest_of, Bounded.job_bound, Days.Happening, Days.after, Days.dawn, Drivers.AllDriverMay}
use Rattle.promises.specs.{Drivers.MaySubmit, Drivers.job_in}
use Rattle.day_ends.specs.Ends.{IsBounded}

-- Where no shader that a handle of the file's jobs names has a loop: once a driver has handed in job j of the file, at any time, at most
-- `job_bound f j` steps are for it, and `longest_of f + 1` more for each in which its renderer stays at an item. Steps for other jobs don't
-- count.
abbrev pub SubmissionsEnd : Type 0
SubmissionsEnd =
    (memory : List ℕ) (happenings : List Happening) (f : FileModel) (j : ℕ) → AllDriverMay (dawn memory) happenings
    → MaySubmit (after (dawn memory) happenings) f j → file_loops f ≡ false
    → IsBounded (after (dawn memory) happenings) (longest_of f) (job_bound f j) (job_in f j)
