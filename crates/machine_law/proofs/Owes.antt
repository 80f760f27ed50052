-- All units of the machine owe what makes runs safe, from what each owes for one job, which the units' laws give.
use Rattle.std.proofs.Common.{◌≡◌, ℕ, zero, suc, ◌+◌, Bool, List, [], ◌∷◌, Option, Some, subst, arith, ◌≢◌, true, false, if◌then◌else◌, None, refl, IsTrue, ◌<◌, map, replicate, sym, rules}
use Rattle.std.proofs.lemmas.Bool.{false≢true}
use Rattle.std.specs.Prelude.{IfSome, ◌==◌, ◌&&◌, ◌||◌, is_some, is_none, option_map}
use Rattle.machine_plan.specs.Regions.{Every, Inside, Rights, rights_of, IsSafeAccess, IsSafeIn, HasReadOnly, Interval}
use Rattle.machine_plan.specs.declared.{launch.Launch.Launch, launch.Free.Free, who.Who.Who}
use Rattle.machine_plan.specs.Glance.{Glance, Now, glance_result, GlancesIn}
use Rattle.machine_plan.specs.{Plan.Plan, Plan.Keeps, Plan.access, World.plan_mapped, World.Owes}
use Rattle.machine.specs.State.{Picked, first_where, item_at, put_at, Units, binner_job, renderer_job, job_start, units_start}
use Rattle.machine.specs.Step.{with_launch, with_lists, with_qpu, is_ahead, binner_may, renderer_may, qpu_may, tmu_may, binner_turn, renderer_turn, qpu_turn, tmu_turn, unit_ready, unit_turn, ready, turn}
use Rattle.machine.specs.declared.job.Start.{Start}
use Rattle.apart_law.proofs.Places.{chosen, drop_every, put_every}
use Rattle.machine_law.specs.Units.{EachAt, Facts, IsFresh, AskOf, QpuFine, ThreadTurned, UnitsFine, ListsTurned, KeepsFor, UnitLaws}
use Rattle.machine_law.specs.Jobs.{ArePlain, LaunchFine, ThreadFine, JobFine, facts_of}
use Rattle.machine_law.specs.Laws.{AreFine, UnitsOwe}
use Rattle.machine_plan.proofs.{Runs.every-append, Safe.safe_of, Worlds.keeps_mapped, Plans.keeps_of, Plans.keeps_weaker}
use Rattle.qpu_machine.specs.declared.state.{Asked.Asked, Thread.Thread, Qpu.Qpu, Ask.Ask, Request.Request}
use Rattle.qpu_machine.specs.declared.state.Fate.{Fate, TheVariants.Switches, TheVariants.Ends}
use Rattle.qpu_machine.specs.Qpu.{active_of, left_by, gives_way, woken_slot, queue_with, after_turn, went, oldest, queue_of, with_result, after_drop, result_given, after_service, in_first, in_other, started_in, after_launch, job_of_thread, ready_by, plan_by, job_of_request, serving, free_in, idle_qpu}
use Rattle.qpu_machine.specs.{Start.thread_of, Request.ask_plan, Step.ThreadTurn, Step.thread_plan, Step.thread_ready}
use Rattle.field_words.specs.declared.access.Actor.TheVariants.{Binner as TheBinner, Renderer as TheRenderer, Qpu as TheQpu, Tmu as TheTmu}
use Rattle.field_words.specs.declared.access.Actor.{Actor}
use Rattle.list_machine.specs.Binner.{has_binner_work, binner_ready, binner_plan}
use Rattle.list_machine.specs.Lists.{Lists, Turned, binner_of, renderer_of}
use Rattle.list_machine.specs.Renderer.{has_renderer_work, renderer_ready, renderer_plan}
use Rattle.list_law.specs.Lists.{TurnedFine}
use Rattle.list_law.proofs.{Binning.binner_keeps, Rendering.renderer_keeps, Rendering.renderer_looks}
use Rattle.shader_flow.specs.Flow.{checked_of}
use Rattle.shader_flow.proofs.Ends.{checked_of-le}
use Rattle.qpu_law.specs.{Asks.IsFineAsk, Home.Home, Thread.IsHome, Thread.IsThread, Thread.Left}
use Rattle.promises.specs.Rights.{IsOneOf}
use Rattle.qpu_law.proofs.{Going.in_checked, Join.threads_keep_law, Reading.fine_asks_are_safe_law}
use Rattle.qpu_law.proofs.Starting.{starts_stand_law, results_keep_law}

-- What is known of each item of a list, by its place and by its number.

pub item_fine : {X : Type 0} (P : X → Type 0) (xs : List X) (k : ℕ) → Every P xs → IfSome (item_at xs k) P
item_fine P [] k all = tt
item_fine P (x ∷ xs) zero all = all.0
item_fine P (x ∷ xs) (suc k) all = item_fine P xs k all.1

-- an item put into a list that is numbered from n on
pub put_each : {X : Type 0} (P : ℕ → X → Type 0) (n k number : ℕ) (xs : List X) (new : X) → number ≡ n + k → P number new → EachAt P n xs → EachAt P n (put_at xs k new)
put_each P n k number [] new e fine all = tt
put_each P n zero number (x ∷ xs) new e fine all = let same : number ≡ n = omega (arith, e) in (subst (λ i. P i new) same fine, all.1)
put_each P n (suc k) number (x ∷ xs) new e fine all = (all.0, put_each P (n + 1) k number xs new (omega (arith, e)) fine all.1)

abbrev pub PickedFine : {X : Type 0} → (ℕ → X → Type 0) → Picked X → Type 0
PickedFine P one = P one.number one.item

pub first_fine : {X : Type 0} (P : ℕ → X → Type 0) (p : X → Bool) (n : ℕ) (xs : List X) → EachAt P n xs → IfSome (first_where p n xs) (PickedFine P)
first_fine P p n [] all = tt
first_fine {X = X} P p n (x ∷ xs) all =
    chosen (λ (o : Option (Picked X)). IfSome o (PickedFine P)) (p x) (Some (record { number = n; item = x })) (first_where p (n + 1) xs) all.0 (first_fine P p (n + 1) xs all.1)

-- What is known of a processor stays known: where a program starts in it, after a step of its thread, and after one of a TMU.

-- what is known of a thread, where one runs
abbrev pub SlotFine : Facts → Option Thread → Type 0
SlotFine f slot = IfSome slot f.OfThread

abbrev pub SlotFresh : Option Thread → Type 0
SlotFresh slot = IfSome slot IsFresh

pub active_fine : (f : Facts) (q : Qpu) → QpuFine f q → SlotFine f (active_of q)
active_fine f q fine = chosen (SlotFine f) q.second q.other q.first fine.other fine.first

-- a program that starts
begins_fresh : (job : ℕ) (launch : Launch) → IsFresh (thread_of job launch)
unfolding thread_of
begins_fresh job launch = refl

first_rests : (second : Bool) (t : Thread) (other first : Option Thread) → IsFresh t → SlotFresh (if second then first else other) → SlotFresh (if second && is_some other then Some t else other)
first_rests second t other first fresh rests = search (rules, arith)

in_first_fine : (f : Facts) (q : Qpu) (t : Thread) → f.OfThread t → IsFresh t → QpuFine f q → QpuFine f (in_first q t)
unfolding in_first
in_first_fine f q t thread fresh fine = search (rules, arith, first_rests)

other_rests : (second : Bool) (t : Thread) (first other : Option Thread) → IsFresh t → SlotFresh (if second then first else other) → SlotFresh (if second || is_none first then first else Some t)
other_rests second t first other fresh rests = search (rules, arith)

in_other_fine : (f : Facts) (q : Qpu) (t : Thread) → f.OfThread t → IsFresh t → QpuFine f q → QpuFine f (in_other q t)
unfolding in_other
in_other_fine f q t thread fresh fine = search (rules, arith, other_rests)

started_fine : (f : Facts) (threaded : Bool) (t : Thread) (qpus : List Qpu) → f.OfThread t → IsFresh t → Every (QpuFine f) qpus → Every (QpuFine f) (started_in threaded t qpus)
started_fine f threaded t [] thread fresh all = tt
started_fine f threaded t (q ∷ qpus) thread fresh all = search (rules, arith, chosen, in_first_fine, in_other_fine, started_fine f threaded t qpus thread fresh all.1)

pub launched_fine : (f : Facts) (j : ℕ) (launch : Launch) (qpus : List Qpu) → f.OfThread (thread_of j launch) → Every (QpuFine f) qpus → Every (QpuFine f) (after_launch j launch qpus)
launched_fine f j launch qpus thread all = started_fine f launch.threaded (thread_of j launch) qpus thread (begins_fresh j launch) all

woken_fine : (f : Facts) (over : Bool) (slot : Option Thread) → SlotFresh slot → SlotFine f slot → SlotFine f (woken_slot over slot)
woken_fine f over slot fresh fine = search (rules, arith)

-- the thread that rests after a step
rest_first : (over : Bool) (first own : Option Thread) → SlotFresh first → (over ≡ true → SlotFresh own) → SlotFresh (if (if over && is_some first then false else true) then woken_slot over first else own)
rest_first over first own rests switched = search (rules, arith)

rest_other : (over : Bool) (other own : Option Thread) → SlotFresh other → (over ≡ true → SlotFresh own) → SlotFresh (if (if over && is_some other then true else false) then own else woken_slot over other)
rest_other over other own rests switched = search (rules, arith)

-- a queue with what was asked
queue_fine : (f : Facts) (tmu : ℕ) (second : Bool) (job : ℕ) (asked : Option Asked) (requests : List Request) → ((one : Asked) → asked ≡ Some one → f.OfAsk job one.ask) → Every (AskOf f) requests
    → Every (AskOf f) (queue_with tmu second job asked requests)
queue_fine f tmu second job asked requests fine all = search (rules, arith, every-append, chosen)

-- a processor after a step of its active thread, which left this of it
record LeftFine (f : Facts) (job : ℕ) (own : Option Thread) (over : Bool) (asked : Option Asked) : Type 0 where
  pub thread : SlotFine f own
  pub rests : over ≡ true → SlotFresh own
  pub asks : (one : Asked) → asked ≡ Some one → f.OfAsk job one.ask

settled_by_second : (f : Facts) (q : Qpu) (second : Bool) (job : ℕ) (own : Option Thread) (over : Bool) (asked : Option Asked) → QpuFine f (record q { second = second }) → LeftFine f job own over asked
    → QpuFine f (after_turn (record q { second = second }) job own over asked)
unfolding after_turn
settled_by_second f q second job own over asked fine left = search (rules, arith, woken_fine, rest_first, queue_fine, rest_other)

settled_fine : (f : Facts) (q : Qpu) (job : ℕ) (own : Option Thread) (over : Bool) (asked : Option Asked) → QpuFine f q → LeftFine f job own over asked → QpuFine f (after_turn q job own over asked)
settled_fine f q job own over asked fine left = settled_by_second f q q.second job own over asked fine left

-- what an instruction left of its thread
left_fine : (f : Facts) (job : ℕ) (t : Thread) (fate : Fate) (asked : Option Asked) → (fate ≢ Ends → f.OfThread t) → (fate ≡ Switches → IsFresh t) → ((one : Asked) → asked ≡ Some one → f.OfAsk job one.ask)
    → LeftFine f job (left_by fate t) (gives_way fate) asked
left_fine f job t fate asked thread rests asks = search (rules, arith)

pub went_fine : (f : Facts) (q : Qpu) (t : Thread) (turn : ThreadTurn) → QpuFine f q → ThreadTurned f t turn → QpuFine f (went q t turn)
went_fine f q t turn fine turned = search (rules, arith, settled_fine, left_fine)

-- the oldest request of a queue
pub oldest_fine : (f : Facts) (requests : List Request) → Every (AskOf f) requests → IfSome (oldest requests) (AskOf f)
oldest_fine f requests all = search (rules, arith)

pub queue_of_fine : (f : Facts) (q : Qpu) (tmu : ℕ) → QpuFine f q → Every (AskOf f) (queue_of q tmu)
queue_of_fine f q tmu fine = chosen (Every (AskOf f)) (tmu == 0) q.queue0.items q.queue1.items fine.queue0 fine.queue1

dropped_fine : (f : Facts) (q : Qpu) (tmu : ℕ) → QpuFine f q → QpuFine f (after_drop q tmu)
unfolding after_drop
dropped_fine f q tmu fine = search (rules, arith, chosen, drop_every)

-- a finished result changes nothing of what is known
abbrev pub Gets : Facts → Type 0
Gets f = (tmu : ℕ) (row : Option (List ℕ)) (t : Thread) → f.OfThread t → f.OfThread (with_result tmu row t)

got_fine : (f : Facts) (tmu : ℕ) (row : Option (List ℕ)) (slot : Option Thread) → Gets f → SlotFine f slot → SlotFine f (option_map (with_result tmu row) slot)
got_fine f tmu row slot gets fine = search (rules, arith)

got_fresh : (tmu : ℕ) (row : Option (List ℕ)) (slot : Option Thread) → SlotFresh slot → SlotFresh (option_map (with_result tmu row) slot)
got_fresh tmu row slot fresh = search (rules, arith)

given_rests : (second active : Bool) (tmu : ℕ) (row : Option (List ℕ)) (first other : Option Thread) → SlotFresh (if active then first else other)
    → SlotFresh (if active then (if second then first else option_map (with_result tmu row) first) else (if second then option_map (with_result tmu row) other else other))
given_rests second active tmu row first other fresh = search (rules, arith, got_fresh)

given_fine : (f : Facts) (q : Qpu) (tmu : ℕ) (second : Bool) (row : Option (List ℕ)) → Gets f → QpuFine f q → QpuFine f (result_given q tmu second row)
unfolding result_given
given_fine f q tmu second row gets fine = search (rules, arith, chosen, got_fine, given_rests)

pub served_fine : (f : Facts) (q : Qpu) (tmu : ℕ) (request : Request) (row : Option (List ℕ)) → Gets f → QpuFine f q → QpuFine f (after_service q tmu request row)
served_fine f q tmu request row gets fine = given_fine f (after_drop q tmu) tmu request.second row gets (dropped_fine f q tmu fine)

-- what all units owe of a plan
abbrev pub AllKeep : List Rights → Facts → Who → Plan Units → List ℕ → Type 0
AllKeep rights f who plan m = Keeps who (Inside (rights_of rights who.job).region) (IsSafeAccess rights) (λ k next. UnitsFine f next) plan m

-- A unit's law for its job makes the machine's, where what it came to is put among what all units keep.
lifts : {R : Type 0} (rights : List Rights) (f : Facts) (who : Who) (put : R → Units) (P : R → Type 0) → ((r : R) → P r → UnitsFine f (put r))
    → (plan : Plan R) (m : List ℕ) → KeepsFor rights who.job who P plan m → AllKeep rights f who (plan_mapped put plan) m
lifts rights f who put P puts plan m keeps =
    let one : Rights = rights_of rights who.job in
    let L = Inside one.region in
    let H = IsSafeAccess rights in
    keeps_mapped put who L H (λ k next. UnitsFine f next) plan m
    (keeps_weaker who L L H H (λ k r. P r) (λ k r. UnitsFine f (put r)) (λ p n lies. lies) (λ a safe. safe) (λ k r known. puts r known) plan m
    (keeps_of who L (IsSafeIn one) H (λ k r. P r) (λ way p n safe. safe_of rights one (access who way p n) refl safe) plan m keeps))

-- what a list unit came to
launch_fine : (rights : List Rights) (K : List ℕ → Type 0) (f : Facts) → UnitLaws rights K f → (j : ℕ) (launch : Option Launch) (qpus : List Qpu) → IfSome launch (f.OfLaunch j) → Every (QpuFine f) qpus → Every (QpuFine f) (with_launch j launch qpus)
launch_fine rights K f laws j launch qpus fine all = search (rules, arith, launched_fine)

lists_fine : (rights : List Rights) (K : List ℕ → Type 0) (f : Facts) → UnitLaws rights K f → (u : Units) (j : ℕ) (turned : Turned) → UnitsFine f u → ListsTurned f j turned → UnitsFine f (with_lists u j turned)
lists_fine rights K f laws u j turned fine known = search (rules, arith, put_each, launch_fine)

qpu_fine : (f : Facts) (u : Units) (k : ℕ) (q : Qpu) → UnitsFine f u → QpuFine f q → UnitsFine f (with_qpu u k q)
qpu_fine f u k q fine known = record { jobs = fine.jobs; qpus = put_every (QpuFine f) u.qpus k q known fine.qpus }

-- a list unit that isn't held is ready
pub not_held : (held : Bool) (glance : Glance Bool) (m : List ℕ) → IsTrue (glance_result (if held then Now false else glance) m) → glance_result glance m ≡ true
not_held held glance m on = search (rules, arith, false≢true)

binner_owes : (rights : List Rights) (K : List ℕ → Type 0) (f : Facts) → UnitLaws rights K f → (u : Units) (found : Option (Picked Lists)) (words m : List ℕ)
    → K m → UnitsFine f u → IfSome found (PickedFine f.OfJob) → IsTrue (glance_result (binner_may u found) m) → AllKeep rights f (binner_turn u found words).who (binner_turn u found words).plan m
binner_owes rights K f laws u None words m here fine known may = absurd (false≢true may)
binner_owes rights K f laws u (Some b) words m here fine known may =
    let free : Free = free_in u.qpus in
    lifts rights f (binner_of b.number) (with_lists u b.number) (ListsTurned f b.number) (λ turned one. lists_fine rights K f laws u b.number turned fine one) (binner_plan b.item free words) m
    (laws.binner b.number b.item free words m here known (not_held (is_ahead b.number (renderer_job u)) (binner_ready b.item free) m may))

renderer_owes : (rights : List Rights) (K : List ℕ → Type 0) (f : Facts) → UnitLaws rights K f → (u : Units) (found : Option (Picked Lists)) (words m : List ℕ)
    → K m → UnitsFine f u → IfSome found (PickedFine f.OfJob) → IsTrue (glance_result (renderer_may found) m) → AllKeep rights f (renderer_turn u found words).who (renderer_turn u found words).plan m
renderer_owes rights K f laws u None words m here fine known may = absurd (false≢true may)
renderer_owes rights K f laws u (Some r) words m here fine known may =
    let free : Free = free_in u.qpus in
    lifts rights f (renderer_of r.number) (with_lists u r.number) (ListsTurned f r.number) (λ turned one. lists_fine rights K f laws u r.number turned fine one) (renderer_plan r.item free words) m
    (laws.renderer r.number r.item free words m here known may)

-- a processor by its active thread
slot_owes : (rights : List Rights) (K : List ℕ → Type 0) (f : Facts) → UnitLaws rights K f → (u : Units) (k : ℕ) (q : Qpu) (slot : Option Thread) (words m : List ℕ)
    → K m → UnitsFine f u → QpuFine f q → SlotFine f slot → IsTrue (glance_result (ready_by slot q) m)
    → AllKeep rights f (record { unit = TheQpu k; job = job_of_thread slot }) (plan_mapped (with_qpu u k) (plan_by slot q words)) m
slot_owes rights K f laws u k q None words m here fine known thread may = absurd (false≢true may)
slot_owes rights K f laws u k q (Some t) words m here fine known thread may =
    let who : Who = record { unit = TheQpu k; job = t.job } in
    let one : Rights = rights_of rights t.job in
    let L = Inside one.region in
    let G = IsSafeIn one in
    let plan : Plan ThreadTurn = thread_plan t words in
    lifts rights f who (with_qpu u k) (QpuFine f) (λ next one. qpu_fine f u k next fine one) (plan_mapped (went q t) plan) m
    (keeps_mapped (went q t) who L G (λ n next. QpuFine f next) plan m
    (keeps_weaker who L L G G (λ n turn. ThreadTurned f t turn) (λ n turn. QpuFine f (went q t turn)) (λ p n lies. lies) (λ a safe. safe) (λ n turn turned. went_fine f q t turn known turned) plan m
    (laws.thread t who words m here thread)))

qpu_owes : (rights : List Rights) (K : List ℕ → Type 0) (f : Facts) → UnitLaws rights K f → (u : Units) (k : ℕ) (found : Option Qpu) (words m : List ℕ)
    → K m → UnitsFine f u → IfSome found (QpuFine f) → IsTrue (glance_result (qpu_may found) m) → AllKeep rights f (qpu_turn u k found words).who (qpu_turn u k found words).plan m
qpu_owes rights K f laws u k found words m here fine known may = search (rules, arith, false≢true, slot_owes, active_fine)

-- a TMU by its oldest request
request_owes : (rights : List Rights) (K : List ℕ → Type 0) (f : Facts) → UnitLaws rights K f → (u : Units) (k n : ℕ) (q : Qpu) (found : Option Request) (words m : List ℕ)
    → K m → UnitsFine f u → QpuFine f q → IfSome found (AskOf f)
    → AllKeep rights f (record { unit = TheTmu k n; job = job_of_request found }) (plan_mapped (with_qpu u k) (serving found q n words)) m
request_owes rights K f laws u k n q None words m here fine known asked = qpu_fine f u k q fine known
request_owes rights K f laws u k n q (Some request) words m here fine known asked =
    let who : Who = record { unit = TheTmu k n; job = request.job } in
    let one : Rights = rights_of rights request.job in
    let L = Inside one.region in
    let G = IsSafeIn one in
    let plan : Plan (Option (List ℕ)) = ask_plan request.ask words in
    lifts rights f who (with_qpu u k) (QpuFine f) (λ next one. qpu_fine f u k next fine one) (plan_mapped (after_service q n request) plan) m
    (keeps_mapped (after_service q n request) who L G (λ i next. QpuFine f next) plan m
    (keeps_weaker who L L G G (λ i row. Unit {0}) (λ i row. QpuFine f (after_service q n request row)) (λ p i lies. lies) (λ a safe. safe) (λ i row none. served_fine f q n request row laws.gets known) plan m
    (laws.request request.job request.ask who words m here asked)))

tmu_owes : (rights : List Rights) (K : List ℕ → Type 0) (f : Facts) → UnitLaws rights K f → (u : Units) (k n : ℕ) (found : Option Qpu) (words m : List ℕ)
    → K m → UnitsFine f u → IfSome found (QpuFine f) → IsTrue (glance_result (tmu_may found n) m) → AllKeep rights f (tmu_turn u k n found words).who (tmu_turn u k n found words).plan m
tmu_owes rights K f laws u k n found words m here fine known may = search (rules, arith, false≢true, request_owes, oldest_fine, queue_of_fine)

-- each unit
unit_owes : (rights : List Rights) (K : List ℕ → Type 0) (f : Facts) → UnitLaws rights K f → (u : Units) (unit : Actor) (words m : List ℕ)
    → K m → UnitsFine f u → IsTrue (glance_result (unit_ready u unit) m) → AllKeep rights f (unit_turn u unit words).who (unit_turn u unit words).plan m
unit_owes rights K f laws u TheBinner words m here fine may = binner_owes rights K f laws u (binner_job u) words m here fine (first_fine f.OfJob has_binner_work 0 u.jobs fine.jobs) may
unit_owes rights K f laws u TheRenderer words m here fine may = renderer_owes rights K f laws u (renderer_job u) words m here fine (first_fine f.OfJob has_renderer_work 0 u.jobs fine.jobs) may
unit_owes rights K f laws u (TheQpu k) words m here fine may = qpu_owes rights K f laws u k (item_at u.qpus k) words m here fine (item_fine (QpuFine f) u.qpus k fine.qpus) may
unit_owes rights K f laws u (TheTmu k n) words m here fine may = tmu_owes rights K f laws u k n (item_at u.qpus k) words m here fine (item_fine (QpuFine f) u.qpus k fine.qpus) may

-- by which looks a unit sees whether it may step
held_looks : (L : ℕ → ℕ → Type 0) (held : Bool) (glance : Glance Bool) (m : List ℕ) → GlancesIn L glance m → GlancesIn L (if held then Now false else glance) m
held_looks L held glance m looks = search (rules, arith)

there_looks : (L : ℕ → ℕ → Type 0) (there : Bool) (glance : Glance Bool) (m : List ℕ) → GlancesIn L glance m → GlancesIn L (if there then glance else Now false) m
there_looks L there glance m looks = search (rules, arith)

binner_looks : (L : ℕ → ℕ → Type 0) (u : Units) (found : Option (Picked Lists)) (m : List ℕ) → GlancesIn L (binner_may u found) m
unfolding binner_ready
binner_looks L u found m = search (rules, arith, held_looks)

renderer_looks_in : (rights : List Rights) (K : List ℕ → Type 0) (f : Facts) → UnitLaws rights K f → (u : Units) (found : Option (Picked Lists)) (words m : List ℕ)
    → K m → IfSome found (PickedFine f.OfJob) → GlancesIn (Inside (rights_of rights (renderer_turn u found words).who.job).region) (renderer_may found) m
renderer_looks_in rights K f laws u found words m here known = search (rules, arith)

slot_looks : (rights : List Rights) (K : List ℕ → Type 0) (f : Facts) → UnitLaws rights K f → (q : Qpu) (slot : Option Thread) (m : List ℕ)
    → K m → SlotFine f slot → GlancesIn (Inside (rights_of rights (job_of_thread slot)).region) (ready_by slot q) m
slot_looks rights K f laws q slot m here thread = search (rules, arith)

qpu_looks : (rights : List Rights) (K : List ℕ → Type 0) (f : Facts) → UnitLaws rights K f → (u : Units) (k : ℕ) (found : Option Qpu) (words m : List ℕ)
    → K m → IfSome found (QpuFine f) → GlancesIn (Inside (rights_of rights (qpu_turn u k found words).who.job).region) (qpu_may found) m
qpu_looks rights K f laws u k found words m here known = search (rules, arith, slot_looks, active_fine)

tmu_looks : (L : ℕ → ℕ → Type 0) (found : Option Qpu) (n : ℕ) (m : List ℕ) → GlancesIn L (tmu_may found n) m
tmu_looks L found n m = search (rules, arith, there_looks)

unit_looks : (rights : List Rights) (K : List ℕ → Type 0) (f : Facts) → UnitLaws rights K f → (u : Units) (unit : Actor) (words m : List ℕ)
    → K m → UnitsFine f u → GlancesIn (Inside (rights_of rights (unit_turn u unit words).who.job).region) (unit_ready u unit) m
unit_looks rights K f laws u unit words m here fine = search (rules, arith, binner_looks, renderer_looks_in, first_fine, qpu_looks, item_fine, tmu_looks)

-- All units owe it.
pub units_owe : (rights : List Rights) (first : List ℕ) (f : Facts) → UnitLaws rights (HasReadOnly rights first) f → Owes ready turn rights first (UnitsFine f)
unfolding ready turn
units_owe rights first f laws = record {
  looks = λ u m e fine here. unit_looks rights (HasReadOnly rights first) f laws u e.unit e.words m here fine;
  keeps = λ u m e fine here may. unit_owes rights (HasReadOnly rights first) f laws u e.unit e.words m here fine may;
}

-- what a step of a list unit of job j came to
turned_known : (rights : List Rights) (plains : ℕ → List Interval) (first : List ℕ) (j : ℕ) (s : Lists) (known : JobFine rights plains first j s) (turned : Turned)
    → TurnedFine (rights_of rights j) (HasReadOnly rights first) (LaunchFine rights plains first j) known.config known.frame turned → ListsTurned (facts_of rights plains first) j turned
turned_known rights plains first j s known turned fine = search (rules, arith)

binner_law : (rights : List Rights) (plains : ℕ → List Interval) (first : List ℕ) (j : ℕ) (s : Lists) (free : Free) (words m : List ℕ) → HasReadOnly rights first m → JobFine rights plains first j s → glance_result (binner_ready s free) m ≡ true
    → KeepsFor rights j (binner_of j) (ListsTurned (facts_of rights plains first) j) (binner_plan s free words) m
binner_law rights plains first j s free words m here known on =
    let r : Rights = rights_of rights j in
    let K = HasReadOnly rights first in
    let O = LaunchFine rights plains first j in
    keeps_weaker (binner_of j) (Inside r.region) (Inside r.region) (IsSafeIn r) (IsSafeIn r) (λ k turned. TurnedFine r K O known.config known.frame turned) (λ k turned. ListsTurned (facts_of rights plains first) j turned)
    (λ p n lies. lies) (λ a safe. safe) (λ k turned fine. turned_known rights plains first j s known turned fine) (binner_plan s free words) m
    (binner_keeps (binner_of j) r K O known.config known.frame s free words m known.allocates here known.lists on)

renderer_law : (rights : List Rights) (plains : ℕ → List Interval) (first : List ℕ) (j : ℕ) (s : Lists) (free : Free) (words m : List ℕ) → HasReadOnly rights first m → JobFine rights plains first j s → glance_result (renderer_ready s) m ≡ true
    → KeepsFor rights j (renderer_of j) (ListsTurned (facts_of rights plains first) j) (renderer_plan s free words) m
renderer_law rights plains first j s free words m here known on =
    let r : Rights = rights_of rights j in
    let K = HasReadOnly rights first in
    let O = LaunchFine rights plains first j in
    keeps_weaker (renderer_of j) (Inside r.region) (Inside r.region) (IsSafeIn r) (IsSafeIn r) (λ k turned. TurnedFine r K O known.config known.frame turned) (λ k turned. ListsTurned (facts_of rights plains first) j turned)
    (λ p n lies. lies) (λ a safe. safe) (λ k turned fine. turned_known rights plains first j s known turned fine) (renderer_plan s free words) m
    (renderer_keeps (renderer_of j) r K O known.config known.frame s free words m here known.lists on)

renderer_looks_law : (rights : List Rights) (plains : ℕ → List Interval) (first : List ℕ) (j : ℕ) (s : Lists) (m : List ℕ) → HasReadOnly rights first m → JobFine rights plains first j s → GlancesIn (Inside (rights_of rights j).region) (renderer_ready s) m
renderer_looks_law rights plains first j s m here known = renderer_looks (rights_of rights j) (HasReadOnly rights first) (LaunchFine rights plains first j) known.config known.frame s m known.lists

-- what an instruction left
left_known : (rights : List Rights) (plains : ℕ → List Interval) (first : List ℕ) (t : Thread) (known : ThreadFine rights plains first t) (m k : List ℕ) (turn : ThreadTurn) → Left known.home known.buffers t m k turn → ThreadTurned (facts_of rights plains first) t turn
left_known rights plains first t known m k turn left = search (rules, arith)

thread_law : (rights : List Rights) (plains : ℕ → List Interval) (first : List ℕ) (t : Thread) (who : Who) (words m : List ℕ) → HasReadOnly rights first m → ThreadFine rights plains first t
    → KeepsFor rights t.job who (ThreadTurned (facts_of rights plains first) t) (thread_plan t words) m
thread_law rights plains first t who words m here known =
    let r : Rights = rights_of rights t.job in
    keeps_weaker who (Inside r.region) (Inside r.region) (IsSafeIn r) (IsSafeIn r) (λ k turn. Left known.home known.buffers t m k turn) (λ k turn. ThreadTurned (facts_of rights plains first) t turn)
    (λ p n lies. lies) (λ a safe. safe) (λ k turn left. left_known rights plains first t known m k turn left) (thread_plan t words) m
    (threads_keep_law known.home known.buffers m r known.stands.index t who words (known.fine.stands m here) known.fine.samples known.stands.is)

-- a request looks nowhere and reads in its buffer, which the job's region has
request_law : (rights : List Rights) (plains : ℕ → List Interval) → ArePlain rights plains → (j : ℕ) (ask : Ask) (who : Who) (words m : List ℕ) → IsFineAsk (IsOneOf (plains j)) ask
    → KeepsFor rights j who (λ row. Unit {0}) (ask_plan ask words) m
request_law rights plains plain j ask who words m fine =
    let r : Rights = rights_of rights j in
    let named : IsFineAsk (IsOneOf r.region) ask = record { place = fine.place; size = fine.size; named = plain j fine.place fine.size fine.named; reads = fine.reads } in
    keeps_weaker who (Inside r.region) (Inside r.region) (IsSafeIn r) (IsSafeIn r) (λ k row. k ≡ m) (λ k row. Unit {0}) (λ p n lies. lies) (λ a safe. safe) (λ k row same. tt) (ask_plan ask words) m
    (fine_asks_are_safe_law r ask named who words m)

start_law : (rights : List Rights) (plains : ℕ → List Interval) (first : List ℕ) (j : ℕ) (launch : Launch) → LaunchFine rights plains first j launch → ThreadFine rights plains first (thread_of j launch)
unfolding thread_of
start_law rights plains first j launch known = record {
  home = known.home;
  buffers = known.buffers;
  fine = known.fine;
  stands = record { index = 0; is = starts_stand_law known.home j launch known.code known.uniforms known.threaded };
}

gets_law : (rights : List Rights) (plains : ℕ → List Interval) (first : List ℕ) (tmu : ℕ) (row : Option (List ℕ)) (t : Thread) → ThreadFine rights plains first t → ThreadFine rights plains first (with_result tmu row t)
gets_law rights plains first tmu row t known = search (rules, arith, results_keep_law)

-- whether a thread may step is seen at its instruction
pub looks_there : (h : Home) (n : ℕ) (m : List ℕ) (t : Thread) (one : Rights) (queued0 queued1 : ℕ) → IsHome m one.region h → IsThread h n t → GlancesIn (Inside one.region) (thread_ready t queued0 queued1) m
unfolding thread_ready
looks_there h n m t one queued0 queued1 home is =
    let inside : n < checked_of h.code = in_checked h.code n home.sound is.at.inside in
    (subst (λ q. Inside one.region q 8) (sym is.at.place) (home.code_in n (omega (arith, inside, checked_of-le h.code))), tt)

thread_looks_law : (rights : List Rights) (plains : ℕ → List Interval) (first : List ℕ) (t : Thread) (queued0 queued1 : ℕ) (m : List ℕ) → HasReadOnly rights first m → ThreadFine rights plains first t
    → GlancesIn (Inside (rights_of rights t.job).region) (thread_ready t queued0 queued1) m
thread_looks_law rights plains first t queued0 queued1 m here known = looks_there known.home known.stands.index m t (rights_of rights t.job) queued0 queued1 (known.fine.stands m here) known.stands.is

-- all of them
unit_laws : (rights : List Rights) (plains : ℕ → List Interval) (first : List ℕ) → ArePlain rights plains → UnitLaws rights (HasReadOnly rights first) (facts_of rights plains first)
unit_laws rights plains first plain = search (rules, arith, binner_law, renderer_law, renderer_looks, renderer_looks_law, thread_law, thread_looks_law, request_law, start_law, gets_law)

pub units_owe_law : UnitsOwe
units_owe_law rights plains first plain = units_owe rights first (facts_of rights plains first) (unit_laws rights plains first plain)

-- at the start
each_start : (P : ℕ → Lists → Type 0) (n : ℕ) (starts : List Start) → EachAt (λ j start. P j (job_start start)) n starts → EachAt P n (map job_start starts)
each_start P n [] all = tt
each_start P n (start ∷ starts) all = (all.0, each_start P (n + 1) starts all.1)

pub idle_fine : (f : Facts) (n : ℕ) → Every (QpuFine f) (replicate n idle_qpu)
idle_fine f zero = tt
idle_fine f (suc n) = (record { first = tt; other = tt; rests = tt; queue0 = tt; queue1 = tt }, idle_fine f n)

pub start_fine : (rights : List Rights) (plains : ℕ → List Interval) (first : List ℕ) (starts : List Start) → EachAt (λ j start. JobFine rights plains first j (job_start start)) 0 starts → AreFine rights plains first (units_start starts)
start_fine rights plains first starts all = record { jobs = each_start (JobFine rights plains first) 0 starts all; qpus = idle_fine (facts_of rights plains first) 12 }
