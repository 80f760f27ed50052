-- A machine of any units over one memory: whether a unit may step is a glance, and its step is a
-- plan. What it is for jobs to be safe in such a machine, and for runs to depend on nothing else, is
-- said here once, and what the units owe for it.
use Rattle.std.specs.Prelude.{◌≡◌, ℕ, Bool, IsTrue, List, unwrap_or}
use Rattle.field_words.specs.declared.access.Access.{Access}
use Rattle.machine_plan.specs.Plan.{Plan, Done, Wilds, Reads, Looks, Writes, Outcome, outcome_of, Keeps}
use Rattle.machine_plan.specs.Regions.{Interval, Inside, Every, Rights, rights_of, IsSafeAccess, IsKept, HasReadOnly, Agree}
use Rattle.machine_plan.specs.{declared.who.Who.Who, Glance.Glance, Glance.glance_result, Glance.GlancesIn, Runs.Moved, Runs.Run}

-- the plan with its result handed on
abbrev pub plan_mapped : {R T : Type 0} → (R → T) → Plan R → Plan T
plan_mapped put (Done r) = Done (put r)
plan_mapped put Wilds = Wilds
plan_mapped put (Reads place len next) = Reads place len (λ bytes. plan_mapped put (next bytes))
plan_mapped put (Looks place len next) = Looks place len (λ bytes. plan_mapped put (next bytes))
plan_mapped put (Writes place bytes next) = Writes place bytes (plan_mapped put next)

-- the plan and then the one that goes by its result
abbrev pub plan_followed : {R T : Type 0} → Plan R → (R → Plan T) → Plan T
plan_followed (Done r) further = further r
plan_followed Wilds further = Wilds
plan_followed (Reads place len next) further = Reads place len (λ bytes. plan_followed (next bytes) further)
plan_followed (Looks place len next) further = Looks place len (λ bytes. plan_followed (next bytes) further)
plan_followed (Writes place bytes next) further = Writes place bytes (plan_followed next further)

-- memory, and all else that the machine keeps
pub record World (U : Type 0) : Type 0 where
  pub memory : List ℕ
  pub units : U

-- what a unit would do: for whom, its plan, which comes to what all units keep then, and what they
-- keep where the step is undefined
pub record Turn (U : Type 0) : Type 0 where
  pub who : Who
  pub plan : Plan U
  pub wild : U

-- an event may happen where its glance at the memory says so
abbrev pub world_may : {U E : Type 0} → (U → E → Glance Bool) → World U → E → Bool
world_may ready w e = glance_result (ready w.units e) w.memory

-- what a turn has done whose plan had this outcome
abbrev pub outcome_settled : {U : Type 0} → U → Outcome U → Moved (World U)
outcome_settled wild o = record { accesses = o.accesses; state = record { memory = o.memory; units = unwrap_or o.result wild } }

-- the turn taken
abbrev pub world_turned : {U : Type 0} → World U → Turn U → Moved (World U)
world_turned w t = outcome_settled t.wild (outcome_of t.who t.plan w.memory)

-- the step of an event
abbrev pub world_step : {U E : Type 0} → (U → E → Turn U) → World U → E → Moved (World U)
world_step turn w e = world_turned w (turn w.units e)

-- what a step leaves: its accesses in order, and the next state
pub record Moves {U : Type 0} (moved : Moved (World U)) (accesses : List Access) (w : World U) : Type 0 where
  pub accesses_are : accesses ≡ moved.accesses
  pub state_is : w ≡ moved.state

-- what a run gave is safe: each access is, and every byte that no job may write is at the end as in
-- the memory that it began with
pub record IsSafeRun (jobs : List Rights) (first : List ℕ) (found : List Access) (last : List ℕ) : Type 0 where
  pub accesses : Every (IsSafeAccess jobs) found
  pub kept : IsKept jobs first last

-- Every run from these units over this memory is safe, whatever its events, in whatever order, and
-- of any length.
pub record Safe {U E : Type 0} (ready : U → E → Glance Bool) (turn : U → E → Turn U) (jobs : List Rights) (first : List ℕ) (start : U) : Type 0 where
  pub every_run : (events : List E) (found : List Access) (t : World U)
      → Run (world_may ready) (world_step turn) (record { memory = first; units = start }) events found t
      → IsSafeRun jobs first found t.memory

-- A run over another memory does what this one does: the same events give the same accesses, the
-- units end alike and the memories agree on the intervals, and what no job may write is as the other
-- memory began.
pub record RunsSame {U E : Type 0} (ready : U → E → Glance Bool) (turn : U → E → Turn U) (jobs : List Rights) (all : List Interval) (other : List ℕ) (start : U) (events : List E) (found : List Access) (t : World U) : Type 0 where
  pub last : World U
  pub run : Run (world_may ready) (world_step turn) (record { memory = other; units = start }) events found last
  pub units_alike : last.units ≡ t.units
  pub memory_alike : Agree all t.memory last.memory
  pub kept : IsKept jobs other last.memory

-- Bytes outside these intervals have no effect: over every memory of the same length that agrees on
-- them each run is done alike, and writes nothing but what the jobs may write in either.
pub record Same {U E : Type 0} (ready : U → E → Glance Bool) (turn : U → E → Turn U) (jobs : List Rights) (all : List Interval) (first : List ℕ) (start : U) : Type 0 where
  pub every_memory : (other : List ℕ) → Agree all first other → (events : List E) (found : List Access) (t : World U)
      → Run (world_may ready) (world_step turn) (record { memory = first; units = start }) events found t
      → IsKept jobs first t.memory × RunsSame ready turn jobs all other start events found t

-- What units owe, with what they keep: from all that is kept, over a memory that has what jobs may only read as the first, each look
-- by which a unit sees whether it may step lies in the region of the job for which it steps; and where it may, its plan looks there,
-- does safe accesses alone, and comes to what is kept again.
pub record Owes {U E : Type 0} (ready : U → E → Glance Bool) (turn : U → E → Turn U) (jobs : List Rights) (first : List ℕ) (I : U → Type 0) : Type 0 where
  pub looks : (u : U) (m : List ℕ) (e : E) → I u → HasReadOnly jobs first m → GlancesIn (Inside (rights_of jobs (turn u e).who.job).region) (ready u e) m
  pub keeps : (u : U) (m : List ℕ) (e : E) → I u → HasReadOnly jobs first m → IsTrue (glance_result (ready u e) m)
      → Keeps (turn u e).who (Inside (rights_of jobs (turn u e).who.job).region) (IsSafeAccess jobs) (λ k next. I next) (turn u e).plan m
