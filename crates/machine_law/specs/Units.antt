-- What each unit of the machine owes, said over any facts of what the units keep.
use Rattle.std.specs.Prelude.{◌≡◌, ◌≢◌, ℕ, ◌+◌, true, List, [], ◌∷◌, Option, Some, IfSome}
use Rattle.machine_plan.specs.{declared.launch.Free.Free, declared.launch.Launch.Launch, declared.who.Who.Who, Plan.Plan, Plan.Keeps}
use Rattle.machine_plan.specs.Glance.{glance_result, GlancesIn}
use Rattle.machine_plan.specs.Regions.{Every, Inside, Rights, rights_of, IsSafeIn}
use Rattle.list_machine.specs.{Binner.binner_ready, Binner.binner_plan, Lists.Lists, Lists.Turned, Lists.binner_of, Lists.renderer_of}
use Rattle.list_machine.specs.Renderer.{renderer_ready, renderer_plan}
use Rattle.qpu_machine.specs.{declared.state.Ask.Ask, declared.state.Asked.Asked, declared.state.Qpu.Qpu, declared.state.Request.Request}
use Rattle.qpu_machine.specs.{declared.state.Fate.TheVariants.Ends, declared.state.Fate.TheVariants.Switches, declared.state.Thread.Thread}
use Rattle.qpu_machine.specs.{Qpu.resting_of, Qpu.with_result, Request.ask_plan, Start.thread_of}
use Rattle.qpu_machine.specs.Step.{ThreadTurn, thread_plan, thread_ready}
use Rattle.machine.specs.State.{Units}

-- What is known of what the units keep: of a job's lists, of a program that is started for a job, of a thread, which carries
-- its job's number, and of a request of a job.
pub record Facts : Type 1 where
  pub OfJob : ℕ → Lists → Type 0
  pub OfLaunch : ℕ → Launch → Type 0
  pub OfThread : Thread → Type 0
  pub OfAsk : ℕ → Ask → Type 0

-- P of each item and its number, where the list is numbered from n on
abbrev pub EachAt : {X : Type 0} → (ℕ → X → Type 0) → ℕ → List X → Type 0
EachAt P n [] = Unit {0}
EachAt P n (x ∷ xs) = P n x × EachAt P (n + 1) xs

abbrev pub IsFresh : Thread → Type 0
IsFresh t = t.fresh ≡ true

abbrev pub AskOf : Facts → Request → Type 0
AskOf f request = f.OfAsk request.job request.ask

-- Both threads of a processor, where they run, and each request in its queues are known, and the thread that rests is fresh.
pub record QpuFine (f : Facts) (q : Qpu) : Type 0 where
  pub first : IfSome q.first f.OfThread
  pub other : IfSome q.other f.OfThread
  pub rests : IfSome (resting_of q) IsFresh
  pub queue0 : Every (AskOf f) q.queue0.items
  pub queue1 : Every (AskOf f) q.queue1.items

-- so it is of each job and of each processor
pub record UnitsFine (f : Facts) (u : Units) : Type 0 where
  pub jobs : EachAt f.OfJob 0 u.jobs
  pub qpus : Every (QpuFine f) u.qpus

-- What a step of a list unit of job j came to is known again, and so is the program that it starts, where it starts one.
pub record ListsTurned (f : Facts) (j : ℕ) (turned : Turned) : Type 0 where
  pub lists : f.OfJob j turned.lists
  pub launch : IfSome turned.launch (f.OfLaunch j)

-- What an instruction of a thread left is known again, unless the thread ended, and so is what it asked for. A thread that
-- switches is fresh.
pub record ThreadTurned (f : Facts) (t : Thread) (turn : ThreadTurn) : Type 0 where
  pub thread : turn.leaves.fate ≢ Ends → f.OfThread turn.thread
  pub asked : (asked : Asked) → turn.leaves.asked ≡ Some asked → f.OfAsk t.job asked.ask
  pub rests : turn.leaves.fate ≡ Switches → IsFresh turn.thread

-- From facts, over a memory of K, a plan looks in the region of job j, does accesses that are safe by the job's rights, and
-- comes to P.
abbrev pub KeepsFor : {R : Type 0} → List Rights → ℕ → Who → (R → Type 0) → Plan R → List ℕ → Type 0
KeepsFor rights j who P plan m = Keeps who (Inside (rights_of rights j).region) (IsSafeIn (rights_of rights j)) (λ k r. P r) plan m

-- What each unit owes for one job, whichever that is, over the memories of K: one step of it keeps what is known. Whether a
-- renderer or a thread may step is seen in the job's region; a binner looks nowhere for it. A program that is started is a
-- thread, and a finished result changes nothing.
pub record UnitLaws (rights : List Rights) (K : List ℕ → Type 0) (f : Facts) : Type 0 where
  pub binner : (j : ℕ) (s : Lists) (free : Free) (words m : List ℕ) → K m → f.OfJob j s → glance_result (binner_ready s free) m ≡ true
      → KeepsFor rights j (binner_of j) (ListsTurned f j) (binner_plan s free words) m
  pub renderer : (j : ℕ) (s : Lists) (free : Free) (words m : List ℕ) → K m → f.OfJob j s → glance_result (renderer_ready s) m ≡ true
      → KeepsFor rights j (renderer_of j) (ListsTurned f j) (renderer_plan s free words) m
  pub renderer_looks : (j : ℕ) (s : Lists) (m : List ℕ) → K m → f.OfJob j s → GlancesIn (Inside (rights_of rights j).region) (renderer_ready s) m
  pub thread : (t : Thread) (who : Who) (words m : List ℕ) → K m → f.OfThread t
      → KeepsFor rights t.job who (ThreadTurned f t) (thread_plan t words) m
  pub thread_looks : (t : Thread) (queued0 queued1 : ℕ) (m : List ℕ) → K m → f.OfThread t
      → GlancesIn (Inside (rights_of rights t.job).region) (thread_ready t queued0 queued1) m
  pub request : (j : ℕ) (ask : Ask) (who : Who) (words m : List ℕ) → K m → f.OfAsk j ask
      → KeepsFor rights j who (λ row. Unit {0}) (ask_plan ask words) m
  pub start : (j : ℕ) (launch : Launch) → f.OfLaunch j launch → f.OfThread (thread_of j launch)
  pub gets : (tmu : ℕ) (row : Option (List ℕ)) (t : Thread) → f.OfThread t → f.OfThread (with_result tmu row t)
