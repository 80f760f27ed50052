-- Runs of a machine of any units in which others write too: anyone may change, before, between and after the steps, all but what jobs
-- may only read. What it is for jobs to be safe among them, and to depend on nothing else.
use Rattle.std.specs.Prelude.{◌≡◌, ℕ, Bool, IsTrue, List, [], ◌∷◌, length, slice_index}
use Rattle.field_words.specs.declared.access.Access.{Access}
use Rattle.machine_plan.specs.Regions.{Interval, Every, Rights, regions_joined, IsSafeAccess, IsOutside, HasReadOnly, Agree}
use Rattle.machine_plan.specs.{Glance.Glance, Runs.Moved, Runs.found_by, Runs.state_reached}
use Rattle.machine_plan.specs.World.{World, Turn, world_may, world_step}

-- What happens next: a unit steps, or somebody else leaves this memory.
pub data Happening (E : Type 0) : Type 0 where
  Steps : E → Happening E
  Changes : List ℕ → Happening E

-- A unit steps where it may. Others change any bytes, to anything, but those that some job may reach and none may write.
abbrev pub MayHappen : {U E : Type 0} → (U → E → Glance Bool) → List Rights → World U → Happening E → Type 0
MayHappen ready jobs w (Steps event) = IsTrue (world_may ready w event)
MayHappen ready jobs w (Changes m) = HasReadOnly jobs w.memory m

-- what it does: the units keep what they keep where somebody else writes, and no unit made an access then
abbrev pub happen : {U E : Type 0} → (U → E → Turn U) → World U → Happening E → Moved (World U)
happen turn w (Steps event) = world_step turn w event
happen turn w (Changes m) = record { accesses = []; state = record { memory = m; units = w.units } }

-- each in turn may happen
abbrev pub AllMayHappen : {U E : Type 0} → (U → E → Glance Bool) → (U → E → Turn U) → List Rights → World U → List (Happening E) → Type 0
AllMayHappen ready turn jobs w [] = Unit {0}
AllMayHappen ready turn jobs w (one ∷ others) = MayHappen ready jobs w one × AllMayHappen ready turn jobs (happen turn w one).state others

-- A run from w over these happenings: its units make these accesses, and it ends in t.
pub record OthersRun {U E : Type 0} (ready : U → E → Glance Bool) (turn : U → E → Turn U) (jobs : List Rights) (w : World U) (happenings : List (Happening E)) (found : List Access) (t : World U) : Type 0 where
  pub allowed : AllMayHappen ready turn jobs w happenings
  pub accesses : found ≡ found_by (happen turn) w happenings
  pub last : t ≡ state_reached (happen turn) w happenings

-- the others leave the byte at p alone in this run
abbrev pub IsLeft : {U E : Type 0} → (U → E → Turn U) → ℕ → World U → List (Happening E) → Type 0
IsLeft turn p w [] = Unit {0}
IsLeft turn p w (Steps event ∷ later) = IsLeft turn p (world_step turn w event).state later
IsLeft turn p w (Changes m ∷ later) =
    (slice_index m p ≡ slice_index w.memory p) × IsLeft turn p (record { memory = m; units = w.units }) later

-- What such a run gave is safe: each access of its units is, and every byte that no job may write is at the end as in the memory that
-- it began with, unless others wrote it.
pub record IsSafeAmong {U E : Type 0} (turn : U → E → Turn U) (jobs : List Rights) (w : World U) (happenings : List (Happening E)) (found : List Access) (last : List ℕ) : Type 0 where
  pub accesses : Every (IsSafeAccess jobs) found
  pub long : length last ≡ length w.memory
  pub kept : (p : ℕ) → IsOutside jobs p → IsLeft turn p w happenings → slice_index last p ≡ slice_index w.memory p

-- Every such run from these units over this memory is safe, whichever unit steps next, whenever others write and whatever, and for
-- however long.
pub record SafeAmong {U E : Type 0} (ready : U → E → Glance Bool) (turn : U → E → Turn U) (jobs : List Rights) (first : List ℕ) (start : U) : Type 0 where
  pub every_run : (happenings : List (Happening E)) (found : List Access) (t : World U)
      → OthersRun ready turn jobs (record { memory = first; units = start }) happenings found t
      → IsSafeAmong turn jobs (record { memory = first; units = start }) happenings found t.memory

-- one step in both, or changes that agree on the intervals
abbrev pub IsAlike : {E : Type 0} → List Interval → Happening E → Happening E → Type 0
IsAlike all (Steps event) (Steps other) = event ≡ other
IsAlike all (Changes m) (Changes k) = Agree all m k
IsAlike all (Steps event) (Changes k) = ⊥
IsAlike all (Changes m) (Steps other) = ⊥

-- so it is of each two of two lists
abbrev pub AreAlike : {E : Type 0} → List Interval → List (Happening E) → List (Happening E) → Type 0
AreAlike all [] [] = Unit {0}
AreAlike all (one ∷ later) (other ∷ others) = IsAlike all one other × AreAlike all later others
AreAlike all [] (other ∷ others) = ⊥
AreAlike all (one ∷ later) [] = ⊥

-- These happenings give over another memory the accesses that others gave over the first: the units end alike, and the memories agree
-- where jobs may reach.
pub record RunsAlike {U E : Type 0} (ready : U → E → Glance Bool) (turn : U → E → Turn U) (jobs : List Rights) (other : List ℕ) (start : U) (happenings : List (Happening E)) (found : List Access) (t : World U) : Type 0 where
  pub last : World U
  pub run : OthersRun ready turn jobs (record { memory = other; units = start }) happenings found last
  pub units_alike : last.units ≡ t.units
  pub memory_alike : Agree (regions_joined jobs) t.memory last.memory

-- Bytes outside the jobs' regions have no effect, also where others write them: over every memory of the same length that agrees on the
-- regions, each run is done alike, with changes by others that agree there.
pub record SameAmong {U E : Type 0} (ready : U → E → Glance Bool) (turn : U → E → Turn U) (jobs : List Rights) (first : List ℕ) (start : U) : Type 0 where
  pub every_memory : (other : List ℕ) → Agree (regions_joined jobs) first other
      → (happenings others : List (Happening E)) (found : List Access) (t : World U) → AreAlike (regions_joined jobs) happenings others
      → OthersRun ready turn jobs (record { memory = first; units = start }) happenings found t
      → RunsAlike ready turn jobs other start others found t
