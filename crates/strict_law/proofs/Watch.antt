-- What is watched beside a machine's states: after one step it is known again, whichever unit steps.
use Rattle.std.proofs.Common.{◌≡◌, ◌≢◌, ℕ, zero, suc, ◌+◌, Bool, true, IsTrue, List, [], ◌∷◌, replicate, Option, Some, None, IfSome, refl, sym, subst, arith}
use Rattle.std.proofs.lemmas.Bool.{false≢true}
use Rattle.field_words.specs.declared.access.Actor.TheVariants.{Binner as TheBinner, Renderer as TheRenderer, Qpu as TheQpu, Tmu as TheTmu}
use Rattle.field_words.specs.declared.access.Actor.{Actor}
use Rattle.machine_plan.specs.{declared.launch.Free.Free, declared.launch.Launch.Launch, declared.who.Who.Who, Glance.glance_result, Plan.Plan}
use Rattle.machine_plan.specs.{Regions.Interval, Regions.Rights, Regions.HasReadOnly, World.plan_mapped}
use Rattle.list_machine.specs.Binner.{has_binner_work, binner_ready, binner_plan}
use Rattle.list_machine.specs.Lists.{Lists, Turned, binner_of, renderer_of}
use Rattle.list_machine.specs.Renderer.{has_renderer_work, renderer_ready, renderer_plan}
use Rattle.qpu_machine.specs.Qpu.{active_of, job_of_thread, ready_by, plan_by, went, queue_of, oldest, job_of_request, after_service, serving, free_in, idle_qpu}
use Rattle.qpu_machine.specs.{declared.state.Qpu.Qpu, declared.state.Request.Request, declared.state.Thread.Thread, Request.ask_plan}
use Rattle.qpu_machine.specs.Step.{ThreadTurn, thread_plan}
use Rattle.qpu_law.specs.Home.{Home}
use Rattle.machine.specs.{declared.job.Start.Start, State.Units, State.Picked, State.item_at, State.put_at, State.binner_job, State.renderer_job, State.job_start}
use Rattle.machine.specs.Step.{with_launch, with_lists, with_qpu, is_ahead, binner_may, renderer_may, qpu_may, tmu_may, binner_turn, renderer_turn, qpu_turn, tmu_turn, unit_ready, unit_turn}
use Rattle.machine_law.specs.Units.{EachAt}
use Rattle.machine_law.proofs.Owes.{PickedFine, put_each, first_fine, not_held}
use Rattle.promises.specs.Days.{Files, found_in}
use Rattle.day_law.proofs.Lists.{each_goes}
use Rattle.ends_law.proofs.Plans.{Comes, comes_any, comes_into}
use Rattle.strict_law.specs.{Kept.Keeping, Known.Finds, Known.IsHomeOf, Strict.JobStrict}

-- What is kept, and what is known by it: of a job's lists, of the programs that its binner and its renderer start, and of each processor.
pub record Watch : Type 1 where
  pub Kept : Type 0
  pub keeping : Keeping Kept
  pub OfJob : List Rights → List ℕ → ℕ → Lists → Type 0
  pub Binned : (Home → Type 0) → Launch → Type 0
  pub Rendered : List ℕ → (Home → Type 0) → Launch → Type 0
  pub OfQpu : (ℕ → Home → Type 0) → Kept → ℕ → Qpu → Type 0

-- what a step of a list unit came to
abbrev pub TurnsTo : (Lists → Type 0) → (Launch → Type 0) → Turned → Type 0
TurnsTo Job Started turned = Job turned.lists × IfSome turned.launch Started

abbrev pub Wider : ((Home → Type 0) → Launch → Type 0) → Type 1
Wider Started = (A B : Home → Type 0) → ((home : Home) → A home → B home) → (launch : Launch) → Started A launch → Started B launch

-- It is known at the start, and again after each change: first of a job's lists and what they start, then of processors.
pub record Watches (w : Watch) : Type 1 where
  pub begins : (rights : List Rights) (plains : ℕ → List Interval) (first : List ℕ) (j : ℕ) (start : Start) → JobStrict rights plains first j start → w.OfJob rights first j (job_start start)
  pub binner : (rights : List Rights) (first : List ℕ) (j : ℕ) (who : Who) (s : Lists) (free : Free) (words m : List ℕ) → HasReadOnly rights first m → w.OfJob rights first j s → glance_result (binner_ready s free) m ≡ true
      → Comes who (TurnsTo (w.OfJob rights first j) (w.Binned (IsHomeOf rights first j))) (binner_plan s free words) m
  pub renderer : (rights : List Rights) (first : List ℕ) (j : ℕ) (who : Who) (s : Lists) (free : Free) (words m : List ℕ) → HasReadOnly rights first m → w.OfJob rights first j s → glance_result (renderer_ready s) m ≡ true
      → Comes who (TurnsTo (w.OfJob rights first j) (w.Rendered words (IsHomeOf rights first j))) (renderer_plan s free words) m
  pub wider_binned : Wider w.Binned
  pub wider_rendered : (words : List ℕ) → Wider (w.Rendered words)
  pub binned : (IsOf : ℕ → Home → Type 0) (u : Units) (words m : List ℕ) (kept : w.Kept) (j : ℕ) (launch : Option Launch) → IfSome launch (w.Binned (IsOf j)) → EachAt (w.OfQpu IsOf kept) 0 u.qpus
      → EachAt (w.OfQpu IsOf (w.keeping.step u TheBinner words m kept)) 0 (with_launch j launch u.qpus)
  pub rendered : (IsOf : ℕ → Home → Type 0) (u : Units) (words m : List ℕ) (kept : w.Kept) (j : ℕ) (launch : Option Launch) → IfSome launch (w.Rendered words (IsOf j)) → EachAt (w.OfQpu IsOf kept) 0 u.qpus
      → EachAt (w.OfQpu IsOf (w.keeping.step u TheRenderer words m kept)) 0 (with_launch j launch u.qpus)
  pub thread : (IsOf : ℕ → Home → Type 0) (u : Units) (k : ℕ) (q : Qpu) (t : Thread) (words m : List ℕ) (kept : w.Kept) → item_at u.qpus k ≡ Some q → active_of q ≡ Some t → Finds IsOf m → w.OfQpu IsOf kept k q → IsTrue (glance_result (ready_by (Some t) q) m)
      → Comes (record { unit = TheQpu k; job = t.job }) (λ turn. w.OfQpu IsOf (w.keeping.step u (TheQpu k) words m kept) k (went q t turn)) (thread_plan t words) m
  pub others : (IsOf : ℕ → Home → Type 0) (u : Units) (k : ℕ) (words m : List ℕ) (kept : w.Kept) (i : ℕ) (q : Qpu) → i ≢ k → w.OfQpu IsOf kept i q → w.OfQpu IsOf (w.keeping.step u (TheQpu k) words m kept) i q
  pub texture : (u : Units) (k tmu : ℕ) (words m : List ℕ) (kept : w.Kept) → w.keeping.step u (TheTmu k tmu) words m kept ≡ kept
  pub served : (IsOf : ℕ → Home → Type 0) (kept : w.Kept) (k tmu : ℕ) (q : Qpu) (request : Request) (row : Option (List ℕ)) → w.OfQpu IsOf kept k q → oldest (queue_of q tmu) ≡ Some request → w.OfQpu IsOf kept k (after_service q tmu request row)
  pub moves : (IsHere IsThere : ℕ → Home → Type 0) (N : ℕ → Type 0) → ((j : ℕ) (home : Home) → N j → IsHere j home → IsThere j home) → (kept : w.Kept) (k : ℕ) (q : Qpu) → IfSome q.first (λ t. N t.job) → IfSome q.other (λ t. N t.job)
      → w.OfQpu IsHere kept k q → w.OfQpu IsThere kept k q
  pub found : (IsOf : ℕ → Home → Type 0) (second : Bool) (files : Files) (kept : w.Kept) (k : ℕ) (q : Qpu) → w.OfQpu IsOf kept k q → w.OfQpu IsOf kept k (found_in second files q)
  pub admitted : (j : ℕ) (kept : w.Kept) → w.keeping.admit j kept ≡ kept
  pub idle : (IsOf : ℕ → Home → Type 0) (kept : w.Kept) (k : ℕ) → w.OfQpu IsOf (w.keeping.reset kept) k idle_qpu

-- What is known of jobs says in this memory: of their shaders, and of the steps of their list units.
pub record Says (w : Watch) (OfJob : ℕ → Lists → Type 0) (IsOf : ℕ → Home → Type 0) (m : List ℕ) : Type 0 where
  pub finds : Finds IsOf m
  pub binner : (j : ℕ) (s : Lists) (free : Free) (words : List ℕ) → OfJob j s → glance_result (binner_ready s free) m ≡ true → Comes (binner_of j) (TurnsTo (OfJob j) (w.Binned (IsOf j))) (binner_plan s free words) m
  pub renderer : (j : ℕ) (s : Lists) (free : Free) (words : List ℕ) → OfJob j s → glance_result (renderer_ready s) m ≡ true → Comes (renderer_of j) (TurnsTo (OfJob j) (w.Rendered words (IsOf j))) (renderer_plan s free words) m

-- What is known of units.
pub record Known (w : Watch) (OfJob : ℕ → Lists → Type 0) (IsOf : ℕ → Home → Type 0) (kept : w.Kept) (u : Units) : Type 0 where
  pub jobs : EachAt OfJob 0 u.jobs
  pub qpus : EachAt (w.OfQpu IsOf kept) 0 u.qpus

pub all_idle : (w : Watch) → Watches w → (IsOf : ℕ → Home → Type 0) (kept : w.Kept) (n count : ℕ) → EachAt (w.OfQpu IsOf (w.keeping.reset kept)) n (replicate count idle_qpu)
all_idle w laws IsOf kept n zero = tt
all_idle w laws IsOf kept n (suc count) = (laws.idle IsOf kept n, all_idle w laws IsOf kept (n + 1) count)

-- Items of a list that is numbered from n on.
pub each_item : {X : Type 0} (P : ℕ → X → Type 0) (n k number : ℕ) (xs : List X) → number ≡ n + k → EachAt P n xs → IfSome (item_at xs k) (P number)
each_item P n k number [] is all = tt
each_item P n zero number (x ∷ xs) is all = let e : n ≡ number = omega (arith, is) in subst (λ i. P i x) e all.0
each_item P n (suc k) number (x ∷ xs) is all = each_item P (n + 1) k number xs (omega (arith, is)) all.1

pub each_put : {X : Type 0} (P Q : ℕ → X → Type 0) (n k number : ℕ) (xs : List X) (new : X) → number ≡ n + k → ((i : ℕ) (x : X) → i ≢ number → P i x → Q i x) → Q number new → EachAt P n xs → EachAt Q n (put_at xs k new)
each_put P Q n k number [] new is goes fine all = tt
each_put P Q n zero number (x ∷ xs) new is goes fine all =
    let e : number ≡ n = omega (arith, is) in
    (subst (λ i. Q i new) e fine, each_goes P Q (n + 1) xs (λ i y from known. goes i y (λ same. omega (arith, same, from, is)) known) all.1)
each_put P Q n (suc k) number (x ∷ xs) new is goes fine all =
    (goes n x (λ same. omega (arith, same, is)) all.0, each_put P Q (n + 1) k number xs new (omega (arith, is)) goes fine all.1)

-- The units' turns.
lists_known : (w : Watch) (OfJob : ℕ → Lists → Type 0) (IsOf : ℕ → Home → Type 0) (kept next : w.Kept) (u : Units) (j : ℕ) (Started : Launch → Type 0) (turned : Turned)
    → ((launch : Option Launch) → IfSome launch Started → EachAt (w.OfQpu IsOf kept) 0 u.qpus → EachAt (w.OfQpu IsOf next) 0 (with_launch j launch u.qpus))
    → Known w OfJob IsOf kept u → TurnsTo (OfJob j) Started turned → Known w OfJob IsOf next (with_lists u j turned)
lists_known w OfJob IsOf kept next u j Started turned starts all one = record {
  jobs = put_each OfJob 0 j j u.jobs turned.lists (omega arith) one.0 all.jobs;
  qpus = starts turned.launch one.1 all.qpus;
}

binner_comes : (w : Watch) → Watches w → (OfJob : ℕ → Lists → Type 0) (IsOf : ℕ → Home → Type 0) (kept : w.Kept) (u : Units) (found : Option (Picked Lists)) (words m : List ℕ) → Says w OfJob IsOf m → Known w OfJob IsOf kept u → IfSome found (PickedFine OfJob)
    → IsTrue (glance_result (binner_may u found) m) → Comes (binner_turn u found words).who (Known w OfJob IsOf (w.keeping.step u TheBinner words m kept)) (binner_turn u found words).plan m
binner_comes w laws OfJob IsOf kept u None words m here all job may = absurd (false≢true may)
binner_comes w laws OfJob IsOf kept u (Some b) words m here all job may =
    let free : Free = free_in u.qpus in
    let j : ℕ = b.number in
    let next : w.Kept = w.keeping.step u TheBinner words m kept in
    comes_into (binner_of j) (with_lists u j) (TurnsTo (OfJob j) (w.Binned (IsOf j))) (Known w OfJob IsOf next)
    (λ turned one. lists_known w OfJob IsOf kept next u j (w.Binned (IsOf j)) turned (λ launch started qpus. laws.binned IsOf u words m kept j launch started qpus) all one) (binner_plan b.item free words) m
    (here.binner j b.item free words job (not_held (is_ahead j (renderer_job u)) (binner_ready b.item free) m may))

renderer_comes : (w : Watch) → Watches w → (OfJob : ℕ → Lists → Type 0) (IsOf : ℕ → Home → Type 0) (kept : w.Kept) (u : Units) (found : Option (Picked Lists)) (words m : List ℕ) → Says w OfJob IsOf m → Known w OfJob IsOf kept u → IfSome found (PickedFine OfJob)
    → IsTrue (glance_result (renderer_may found) m) → Comes (renderer_turn u found words).who (Known w OfJob IsOf (w.keeping.step u TheRenderer words m kept)) (renderer_turn u found words).plan m
renderer_comes w laws OfJob IsOf kept u None words m here all job may = absurd (false≢true may)
renderer_comes w laws OfJob IsOf kept u (Some r) words m here all job may =
    let free : Free = free_in u.qpus in
    let j : ℕ = r.number in
    let next : w.Kept = w.keeping.step u TheRenderer words m kept in
    comes_into (renderer_of j) (with_lists u j) (TurnsTo (OfJob j) (w.Rendered words (IsOf j))) (Known w OfJob IsOf next)
    (λ turned one. lists_known w OfJob IsOf kept next u j (w.Rendered words (IsOf j)) turned (λ launch started qpus. laws.rendered IsOf u words m kept j launch started qpus) all one) (renderer_plan r.item free words) m
    (here.renderer j r.item free words job may)

qpu_known : (w : Watch) (OfJob : ℕ → Lists → Type 0) (IsOf : ℕ → Home → Type 0) (kept next : w.Kept) (u : Units) (k : ℕ) (q : Qpu) → ((i : ℕ) (p : Qpu) → i ≢ k → w.OfQpu IsOf kept i p → w.OfQpu IsOf next i p)
    → Known w OfJob IsOf kept u → w.OfQpu IsOf next k q → Known w OfJob IsOf next (with_qpu u k q)
qpu_known w OfJob IsOf kept next u k q others all one = record { jobs = all.jobs; qpus = each_put (w.OfQpu IsOf kept) (w.OfQpu IsOf next) 0 k k u.qpus q (omega arith) others one all.qpus }

slot_comes : (w : Watch) → Watches w → (OfJob : ℕ → Lists → Type 0) (IsOf : ℕ → Home → Type 0) (kept : w.Kept) (k : ℕ) (u : Units) (q : Qpu) (slot : Option Thread) (words m : List ℕ) → item_at u.qpus k ≡ Some q → active_of q ≡ slot → Finds IsOf m → Known w OfJob IsOf kept u
    → w.OfQpu IsOf kept k q → IsTrue (glance_result (ready_by slot q) m)
    → Comes (record { unit = TheQpu k; job = job_of_thread slot }) (Known w OfJob IsOf (w.keeping.step u (TheQpu k) words m kept)) (plan_mapped (with_qpu u k) (plan_by slot q words)) m
slot_comes w laws OfJob IsOf kept k u q None words m is active here all one may = absurd (false≢true may)
slot_comes w laws OfJob IsOf kept k u q (Some t) words m is active here all one may =
    let who : Who = record { unit = TheQpu k; job = t.job } in
    let plan : Plan ThreadTurn = thread_plan t words in
    let next : w.Kept = w.keeping.step u (TheQpu k) words m kept in
    comes_into who (with_qpu u k) (w.OfQpu IsOf next k) (Known w OfJob IsOf next) (λ p known. qpu_known w OfJob IsOf kept next u k p (λ i o other was. laws.others IsOf u k words m kept i o other was) all known) (plan_mapped (went q t) plan) m
    (comes_into who (went q t) (λ turn. w.OfQpu IsOf next k (went q t turn)) (w.OfQpu IsOf next k) (λ turn known. known) plan m (laws.thread IsOf u k q t words m kept is active here one may))

qpu_comes : (w : Watch) → Watches w → (OfJob : ℕ → Lists → Type 0) (IsOf : ℕ → Home → Type 0) (kept : w.Kept) (k : ℕ) (u : Units) (found : Option Qpu) (words m : List ℕ) → item_at u.qpus k ≡ found → Finds IsOf m → Known w OfJob IsOf kept u → IfSome found (w.OfQpu IsOf kept k)
    → IsTrue (glance_result (qpu_may found) m) → Comes (qpu_turn u k found words).who (Known w OfJob IsOf (w.keeping.step u (TheQpu k) words m kept)) (qpu_turn u k found words).plan m
qpu_comes w laws OfJob IsOf kept k u None words m is here all one may = absurd (false≢true may)
qpu_comes w laws OfJob IsOf kept k u (Some q) words m is here all one may = slot_comes w laws OfJob IsOf kept k u q (active_of q) words m is refl here all one may

request_comes : (w : Watch) → Watches w → (OfJob : ℕ → Lists → Type 0) (IsOf : ℕ → Home → Type 0) (kept : w.Kept) (k tmu : ℕ) (u : Units) (q : Qpu) (found : Option Request) (words m : List ℕ) → Known w OfJob IsOf kept u → w.OfQpu IsOf kept k q → oldest (queue_of q tmu) ≡ found
    → Comes (record { unit = TheTmu k tmu; job = job_of_request found }) (Known w OfJob IsOf kept) (plan_mapped (with_qpu u k) (serving found q tmu words)) m
request_comes w laws OfJob IsOf kept k tmu u q None words m all one is = qpu_known w OfJob IsOf kept kept u k q (λ i o other was. was) all one
request_comes w laws OfJob IsOf kept k tmu u q (Some request) words m all one is =
    let who : Who = record { unit = TheTmu k tmu; job = request.job } in
    let plan : Plan (Option (List ℕ)) = ask_plan request.ask words in
    comes_into who (with_qpu u k) (w.OfQpu IsOf kept k) (Known w OfJob IsOf kept) (λ p known. qpu_known w OfJob IsOf kept kept u k p (λ i o other was. was) all known) (plan_mapped (after_service q tmu request) plan) m
    (comes_any who (w.OfQpu IsOf kept k) (after_service q tmu request) (λ row. laws.served IsOf kept k tmu q request row one is) plan m)

tmu_comes : (w : Watch) → Watches w → (OfJob : ℕ → Lists → Type 0) (IsOf : ℕ → Home → Type 0) (kept : w.Kept) (k tmu : ℕ) (u : Units) (found : Option Qpu) (words m : List ℕ) → Known w OfJob IsOf kept u → IfSome found (w.OfQpu IsOf kept k)
    → IsTrue (glance_result (tmu_may found tmu) m) → Comes (tmu_turn u k tmu found words).who (Known w OfJob IsOf kept) (tmu_turn u k tmu found words).plan m
tmu_comes w laws OfJob IsOf kept k tmu u None words m all one may = absurd (false≢true may)
tmu_comes w laws OfJob IsOf kept k tmu u (Some q) words m all one may = request_comes w laws OfJob IsOf kept k tmu u q (oldest (queue_of q tmu)) words m all one refl

pub unit_comes : (w : Watch) → Watches w → (OfJob : ℕ → Lists → Type 0) (IsOf : ℕ → Home → Type 0) (kept : w.Kept) (u : Units) (unit : Actor) (words m : List ℕ) → Says w OfJob IsOf m → Known w OfJob IsOf kept u → IsTrue (glance_result (unit_ready u unit) m)
    → Comes (unit_turn u unit words).who (Known w OfJob IsOf (w.keeping.step u unit words m kept)) (unit_turn u unit words).plan m
unit_comes w laws OfJob IsOf kept u TheBinner words m here all may = binner_comes w laws OfJob IsOf kept u (binner_job u) words m here all (first_fine OfJob has_binner_work 0 u.jobs all.jobs) may
unit_comes w laws OfJob IsOf kept u TheRenderer words m here all may = renderer_comes w laws OfJob IsOf kept u (renderer_job u) words m here all (first_fine OfJob has_renderer_work 0 u.jobs all.jobs) may
unit_comes w laws OfJob IsOf kept u (TheQpu k) words m here all may = qpu_comes w laws OfJob IsOf kept k u (item_at u.qpus k) words m refl here.finds all (each_item (w.OfQpu IsOf kept) 0 k k u.qpus (omega arith) all.qpus) may
unit_comes w laws OfJob IsOf kept u (TheTmu k tmu) words m here all may =
    subst (λ next. Comes (unit_turn u (TheTmu k tmu) words).who (Known w OfJob IsOf next) (unit_turn u (TheTmu k tmu) words).plan m) (sym (laws.texture u k tmu words m kept))
    (tmu_comes w laws OfJob IsOf kept k tmu u (item_at u.qpus k) words m all (each_item (w.OfQpu IsOf kept) 0 k k u.qpus (omega arith) all.qpus) may)
