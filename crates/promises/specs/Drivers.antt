-- What a driver owes that hands in jobs of accepted files, one after the other, for ever; and what it has then.
use Rattle.std.specs.Prelude.{◌≡◌, ◌<◌, ℕ, List, [], ◌∷◌, ◌++◌, length}
use Rattle.job_format.specs.Model.{FileModel}
use Rattle.machine_plan.specs.Regions.{Interval, Inside, rights_of, IsOutside}
use Rattle.promises.specs.Holdings.{slot_in, plain_of, lists_of, codes_of, job_rights, start_of}
use Rattle.promises.specs.Days.{Day, Job, OnlyReads, rights_in, IsSafeDay, Happening, MayHappenBy, happen, after, dawn}
use Rattle.promises.specs.Prepared.{IsFaultless, IsPrepared}

-- what job j of a file may write, and what it may only read
abbrev pub writes_of : FileModel → ℕ → List Interval
writes_of f j = slot_in f j ∷ plain_of f j

abbrev pub reads_of : FileModel → ℕ → List Interval
reads_of f j = lists_of f j ++ codes_of f j

-- the job, as one that is to be admitted
abbrev pub job_in : FileModel → ℕ → Job
job_in f j = record { start = start_of f j; rights = job_rights f j; plain = plain_of f j }

-- No live job may write the lists and the code of job j, and that may write nothing that a live job may only read.
pub record IsApart (d : Day) (f : FileModel) (j : ℕ) : Type 0 where
  pub reads : (p : ℕ) → Inside (reads_of f j) p 1 → IsOutside (rights_in d.jobs) p
  pub writes : (p : ℕ) → Inside (writes_of f j) p 1 → (i : ℕ) → OnlyReads (rights_of (rights_in d.jobs) i) p → ⊥

-- A driver may hand in job j of a file in which no rule is broken, where the memory has been prepared for it, and it is apart from the live jobs.
pub record MaySubmit (d : Day) (f : FileModel) (j : ℕ) : Type 0 where
  pub accepted : IsFaultless f
  pub inside : j < length f.jobs
  pub prepared : IsPrepared f d.state.memory
  pub apart : IsApart d f j

pub record IsSubmitted (d : Day) (job : Job) : Type 0 where
  pub file : FileModel
  pub number : ℕ
  pub is : job ≡ job_in file number
  pub may : MaySubmit d file number

-- So in a machine to which a driver alone hands in jobs.
abbrev pub DriverMay : Day → Happening → Type 0
DriverMay d one = MayHappenBy IsSubmitted d one

abbrev pub AllDriverMay : Day → List Happening → Type 0
AllDriverMay d [] = Unit {0}
AllDriverMay d (one ∷ later) = DriverMay d one × AllDriverMay (happen d one) later

-- Whatever happens, a machine whose driver keeps that is safe, for ever.
abbrev pub DriversAreSafe : Type 0
DriversAreSafe = (memory : List ℕ) (happenings : List Happening) → AllDriverMay (dawn memory) happenings → IsSafeDay (after (dawn memory) happenings)
