-- Sound jobs: every run is safe, also while others write; bytes outside what jobs may reach have no effect; and a texture unit reads
-- in one data buffer of its job.
use Rattle.std.specs.Prelude.{◌≡◌, ℕ, IsTrue, List}
use Rattle.field_words.specs.{declared.access.Access.Access, declared.access.Way.TheVariants.Read, declared.access.Actor.TheVariants.Tmu as TheTmu}
use Rattle.machine_plan.specs.Regions.{Interval, LiesIn, Every, Rights}
use Rattle.machine_plan.specs.Others.{Happening, OthersRun, SafeAmong, SameAmong}
use Rattle.machine.specs.Step.{Event, is_enabled, job_of, step, ready, turn}
use Rattle.machine.specs.{State.Units, State.State, State.units_start, declared.job.Start.Start}
use Rattle.promises.specs.Rights.{IsOneOf}

-- an access that reads inside the interval
pub record IsReadIn (within : Interval) (a : Access) : Type 0 where
  pub way : a.way ≡ Read
  pub inside : LiesIn a.place a.len within

-- Each of the accesses reads inside one of these buffers, and all inside the same one.
pub record ReadInOne (buffers : List Interval) (found : List Access) : Type 0 where
  pub place : ℕ
  pub size : ℕ
  pub named : IsOneOf buffers place size
  pub reads : Every (IsReadIn (record { place = place; size = size })) found

-- In this state, whichever texture unit may step (unit n of processor k), and whatever words answer: what its step does reads inside
-- one data buffer of the job for which it steps.
abbrev pub TexturesReadIn : (ℕ → List Interval) → State → Type 0
TexturesReadIn plains s =
    (k n : ℕ) (words : List ℕ) → IsTrue (is_enabled s (TheTmu k n))
    → ReadInOne (plains (job_of s (TheTmu k n))) (step s (record { unit = TheTmu k n; words = words })).accesses

-- Jobs with these rights and data buffers are sound from these units over this memory: every run is safe, also while others write;
-- bytes outside the jobs' regions have no effect; and in each state to which a run comes texture units read in one data buffer.
pub record Sound (rights : List Rights) (plains : ℕ → List Interval) (first : List ℕ) (start : Units) : Type 0 where
  pub safe : SafeAmong ready turn rights first start
  pub same : SameAmong ready turn rights first start
  pub textures : (happenings : List (Happening Event)) (found : List Access) (t : State)
      → OthersRun ready turn rights (record { memory = first; units = start }) happenings found t → TexturesReadIn plains t

-- The jobs are sound over this memory, where these are their data buffers. In every run from the start state, whatever its events, in
-- whatever order, of any length and with any choice words, and whatever others write before, between and after the steps beside what
-- jobs may only read: no access is undefined, each lies wholly in one interval of the region of the job that it carries, each write in one
-- interval of what that job may write, and every byte that no job may write and the others leave is at the end as at the start. Over
-- every memory of this length that agrees with this one on the regions each run is done alike, with changes by others that agree there.
-- And what a texture unit does reads in one data buffer of its job.
abbrev pub AreSound : List Rights → (ℕ → List Interval) → List ℕ → List Start → Type 0
AreSound jobs plains memory starts = Sound jobs plains memory (units_start starts)
