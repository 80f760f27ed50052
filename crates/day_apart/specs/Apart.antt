-- Jobs that come and go, to one client: what its jobs access, and what its memory ends as, doesn't depend on the other clients' jobs, nor on
-- when they come and go, where its own jobs get the same numbers and take the same steps.
use Rattle.std.specs.Prelude.{◌≡◌, ℕ, Bool, true, false, if◌then◌else◌, List, [], ◌∷◌, length, map, Option, Some, None, slice_index}
use Rattle.machine_plan.specs.{declared.launch.Slot.Slot, Memory.bytes_at, Regions.Interval, Regions.Inside, Runs.Moved}
use Rattle.qpu_machine.specs.{declared.state.Qpu.Qpu, declared.state.Thread.Thread, Qpu.slot_of}
use Rattle.machine.specs.{State.item_at, Step.job_of}
use Rattle.promises.specs.Trail.{Client, active_in, starts_in, entries_of}
use Rattle.promises.specs.Days.{Day, Happening, Steps, Changes, Finds, Admits, Retires, Resets, after, dawn, happen, rights_in}
use Rattle.promises.specs.Apart.{EndAlike, IsUnshared, regions_of}
use Rattle.day_law.specs.Day.{MayHappen}
use Rattle.day_law.specs.Alike.{accesses_made, all_made}

-- What happens as a client may know it: what it is; of a step which thread was active and where it started a program; of an admission the
-- job's number, and what its region held.
pub record Note : Type 0 where
  pub what : Happening
  pub second : Bool
  pub starts : Option Slot
  pub number : ℕ
  pub held : List (List ℕ)

abbrev pub held_in : List ℕ → List Interval → List (List ℕ)
held_in m region = map (λ (i : Interval). bytes_at m i.place i.size) region

abbrev pub note_of : Day → Happening → Note
note_of d (Steps event) = record { what = Steps event; second = active_in d.state event.unit; starts = starts_in d.state event.unit event.words; number = 0; held = [] }
note_of d (Admits job) = record { what = Admits job; second = false; starts = None; number = length d.jobs; held = held_in d.state.memory job.rights.region }
note_of d other = record { what = other; second = false; starts = None; number = 0; held = [] }

abbrev pub is_own_thread : Client → Option Thread → Bool
is_own_thread mine None = false
is_own_thread mine (Some t) = mine t.job

abbrev pub is_own_in : Client → Bool → Option Qpu → Bool
is_own_in mine second None = false
is_own_in mine second (Some q) = is_own_thread mine (slot_of q second)

-- It is the client's: a step for its job, what its program finds, its job that comes or goes. A reset is everybody's.
abbrev pub is_own : Client → Day → Happening → Bool
is_own mine d (Steps event) = mine (job_of d.state event.unit)
is_own mine d (Changes m) = false
is_own mine d (Finds k second files) = is_own_in mine second (item_at d.state.units.qpus k)
is_own mine d (Admits job) = mine (length d.jobs)
is_own mine d (Retires j) = mine j
is_own mine d Resets = true

abbrev pub own_note : Client → Day → Happening → Option Note
own_note mine d one = if is_own mine d one then Some (note_of d one) else None

abbrev pub day_moved : Day → Happening → Moved Day
day_moved d one = record { accesses = accesses_made d one; state = happen d one }

-- the client's trail of a day
abbrev pub trail_from : Client → Day → List Happening → List Note
trail_from mine d happenings = entries_of (own_note mine) day_moved d happenings

-- the regions of its live jobs, joined
abbrev pub own_regions : Client → Day → List Interval
own_regions mine d = regions_of mine 0 (rights_in d.jobs)

-- others leave their bytes
abbrev pub Leaves : Client → Day → Happening → Type 0
Leaves mine d (Changes m) = (p : ℕ) → Inside (own_regions mine d) p 1 → slice_index m p ≡ slice_index d.state.memory p
Leaves mine d other = Unit {0}

-- It may happen, it leaves the client's bytes, and afterwards too no other client's job may write a byte of the client's regions.
pub record MayApart (mine : Client) (d : Day) (one : Happening) : Type 0 where
  pub may : MayHappen d one
  pub leaves : Leaves mine d one
  pub unshared : IsUnshared mine (rights_in (happen d one).jobs)

abbrev pub AllMayApart : Client → Day → List Happening → Type 0
AllMayApart mine d [] = Unit {0}
AllMayApart mine d (one ∷ later) = MayApart mine d one × AllMayApart mine (happen d one) later

-- So two days end alike to the client that begin over memories of one length, and in which its trails are the same.
abbrev pub DaysApart : Type 0
DaysApart =
    (mine : Client) (m n : List ℕ) → length m ≡ length n → (happenings others : List Happening)
    → AllMayApart mine (dawn m) happenings → AllMayApart mine (dawn n) others
    → trail_from mine (dawn m) happenings ≡ trail_from mine (dawn n) others
    → EndAlike mine (own_regions mine (after (dawn m) happenings)) (all_made (dawn m) happenings) (all_made (dawn n) others)
    (after (dawn m) happenings).state (after (dawn n) others).state
