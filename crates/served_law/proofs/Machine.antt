-- One step of the machine keeps what is known, whichever unit steps.
use Rattle.std.proofs.Common.{◌≡◌, ℕ, zero, suc, true, IsTrue, List, [], ◌∷◌, length, Option, Some, None, IfSome, refl, ap, arith}
use Rattle.std.proofs.lemmas.Bool.{false≢true}
use Rattle.field_words.specs.declared.access.Actor.TheVariants.{Binner as TheBinner, Renderer as TheRenderer, Qpu as TheQpu, Tmu as TheTmu}
use Rattle.field_words.specs.declared.access.Actor.{Actor}
use Rattle.machine_plan.specs.{declared.launch.Free.Free, declared.launch.Launch.Launch, declared.who.Who.Who, Glance.glance_result, Plan.Plan}
use Rattle.machine_plan.specs.Regions.{Every, Inside, Rights, rights_of, IsSafeAccess, HasReadOnly}
use Rattle.machine_plan.specs.World.{plan_mapped}
use Rattle.machine_plan.proofs.Worlds.{keeps_result}
use Rattle.apart_law.proofs.Places.{put_every}
use Rattle.list_machine.specs.Binner.{has_binner_work, binner_ready, binner_plan}
use Rattle.list_machine.specs.Lists.{Lists, Turned, binner_of, renderer_of}
use Rattle.list_machine.specs.Renderer.{has_renderer_work, renderer_ready, renderer_plan}
use Rattle.list_law.specs.Lists.{TurnedFine}
use Rattle.list_law.proofs.{Binning.binner_keeps, Rendering.renderer_keeps}
use Rattle.qpu_machine.specs.Qpu.{active_of, job_of_thread, queue_count, ready_by, plan_by, went, queue_of, oldest, job_of_request, after_service, serving, free_in}
use Rattle.qpu_machine.specs.{declared.state.Qpu.Qpu, declared.state.Request.Request, declared.state.Thread.Thread, Request.ask_plan}
use Rattle.qpu_machine.specs.Step.{ThreadTurn, thread_plan}
use Rattle.machine.specs.Step.{with_launch, with_lists, with_qpu, is_ahead, binner_may, renderer_may, qpu_may, tmu_may, binner_turn, renderer_turn, qpu_turn, tmu_turn, unit_ready, unit_turn, ready, turn}
use Rattle.machine.specs.State.{Units, Picked, item_at, put_at, binner_job, renderer_job}
use Rattle.machine_law.specs.Laws.{AreFine}
use Rattle.machine_law.proofs.Owes.{PickedFine, item_fine, put_each, first_fine, units_owe_law, not_held}
use Rattle.ends_law.proofs.{Machine.comes_by, Plans.Comes, Plans.comes_any, Plans.comes_into, Plans.keeps_both}
use Rattle.served_law.specs.Known.{LaunchServed, SlotServed, QpuServed, JobServed, UnitsServed, StepsServe}
use Rattle.served_law.proofs.Processors.{active_served, went_served, served_served, launched_served, launched_long}
use Rattle.served_law.proofs.{Threads.ThreadGoes, Threads.thread_goes, Binner.TurnedMeets, Binner.binner_meets, Renderer.renderer_meets}

-- What a step of a list unit of job j came to is known again, and so is the program that it starts.
record JobTurned (rights : List Rights) (K : List ℕ → Type 0) (j : ℕ) (turned : Turned) : Type 0 where
  known : JobServed rights K j turned.lists
  launch : IfSome turned.launch (LaunchServed rights K j)

job_turned : (rights : List Rights) (K : List ℕ → Type 0) (j : ℕ) (s : Lists) (turned : Turned) → (job : JobServed rights K j s) → TurnedFine (rights_of rights j) K (LaunchServed rights K j) job.config job.frame turned
    → TurnedMeets K turned → JobTurned rights K j turned
job_turned rights K j s turned job fine meets = record {
  known = record { config = job.config; frame = job.frame; allocates = job.allocates; lists = fine.lists; meets = meets };
  launch = fine.launch;
}

binner_turned : (rights : List Rights) (K : List ℕ → Type 0) (j : ℕ) (s : Lists) (free : Free) (words m : List ℕ) → K m → JobServed rights K j s → glance_result (binner_ready s free) m ≡ true
    → Comes (binner_of j) (JobTurned rights K j) (binner_plan s free words) m
binner_turned rights K j s free words m here job on =
    let r : Rights = rights_of rights j in
    let O = LaunchServed rights K j in
    comes_by (binner_of j) (Inside r.region) r (λ turned. TurnedFine r K O job.config job.frame turned) (TurnedMeets K) (JobTurned rights K j)
    (λ turned fine meets. job_turned rights K j s turned job fine meets) (binner_plan s free words) m
    (binner_keeps (binner_of j) r K O job.config job.frame s free words m job.allocates here job.lists on)
    (binner_meets (binner_of j) K s free words m here job.meets on)

renderer_turned : (rights : List Rights) (K : List ℕ → Type 0) (j : ℕ) (s : Lists) (free : Free) (words m : List ℕ) → K m → JobServed rights K j s → glance_result (renderer_ready s) m ≡ true
    → Comes (renderer_of j) (JobTurned rights K j) (renderer_plan s free words) m
renderer_turned rights K j s free words m here job on =
    let r : Rights = rights_of rights j in
    let O = LaunchServed rights K j in
    comes_by (renderer_of j) (Inside r.region) r (λ turned. TurnedFine r K O job.config job.frame turned) (TurnedMeets K) (JobTurned rights K j)
    (λ turned fine meets. job_turned rights K j s turned job fine meets) (renderer_plan s free words) m
    (renderer_keeps (renderer_of j) r K O job.config job.frame s free words m here job.lists on)
    (renderer_meets (renderer_of j) K s free words m here job.meets on)

-- among all units
launch_served : (rights : List Rights) (K : List ℕ → Type 0) (j : ℕ) (launch : Option Launch) (qpus : List Qpu) → IfSome launch (LaunchServed rights K j) → Every (QpuServed rights K) qpus → Every (QpuServed rights K) (with_launch j launch qpus)
launch_served rights K j None qpus served all = all
launch_served rights K j (Some launch) qpus served all = launched_served rights K j launch qpus served all

launch_long : (j : ℕ) (launch : Option Launch) (qpus : List Qpu) → length (with_launch j launch qpus) ≡ length qpus
launch_long j None qpus = refl
launch_long j (Some launch) qpus = launched_long j launch qpus

put_long : {X : Type 0} (xs : List X) (k : ℕ) (x : X) → length (put_at xs k x) ≡ length xs
put_long [] k x = refl
put_long (y ∷ xs) zero x = refl
put_long (y ∷ xs) (suc k) x = ap suc (put_long xs k x)

lists_served : (rights : List Rights) (K : List ℕ → Type 0) (u : Units) (j : ℕ) (turned : Turned) → UnitsServed rights K u → JobTurned rights K j turned → UnitsServed rights K (with_lists u j turned)
lists_served rights K u j turned all one =
    let some = all.some in
    let long = launch_long j turned.launch u.qpus in
    record {
      jobs = put_each (JobServed rights K) 0 j j u.jobs turned.lists (omega arith) one.known all.jobs;
      qpus = launch_served rights K j turned.launch u.qpus one.launch all.qpus;
      some = omega (arith, some, long);
    }

qpu_served : (rights : List Rights) (K : List ℕ → Type 0) (u : Units) (k : ℕ) (q : Qpu) → UnitsServed rights K u → QpuServed rights K q → UnitsServed rights K (with_qpu u k q)
qpu_served rights K u k q all one =
    let some = all.some in
    let long = put_long u.qpus k q in
    record { jobs = all.jobs; qpus = put_every (QpuServed rights K) u.qpus k q one all.qpus; some = omega (arith, some, long) }

-- The units' turns.
binner_serves : (rights : List Rights) (K : List ℕ → Type 0) (u : Units) (found : Option (Picked Lists)) (words m : List ℕ) → K m → UnitsServed rights K u → IfSome found (PickedFine (JobServed rights K))
    → IsTrue (glance_result (binner_may u found) m) → Comes (binner_turn u found words).who (UnitsServed rights K) (binner_turn u found words).plan m
binner_serves rights K u None words m here all picked may = absurd (false≢true may)
binner_serves rights K u (Some b) words m here all picked may =
    let free : Free = free_in u.qpus in
    comes_into (binner_of b.number) (with_lists u b.number) (JobTurned rights K b.number) (UnitsServed rights K) (λ turned one. lists_served rights K u b.number turned all one) (binner_plan b.item free words) m
    (binner_turned rights K b.number b.item free words m here picked (not_held (is_ahead b.number (renderer_job u)) (binner_ready b.item free) m may))

renderer_serves : (rights : List Rights) (K : List ℕ → Type 0) (u : Units) (found : Option (Picked Lists)) (words m : List ℕ) → K m → UnitsServed rights K u → IfSome found (PickedFine (JobServed rights K))
    → IsTrue (glance_result (renderer_may found) m) → Comes (renderer_turn u found words).who (UnitsServed rights K) (renderer_turn u found words).plan m
renderer_serves rights K u None words m here all picked may = absurd (false≢true may)
renderer_serves rights K u (Some r) words m here all picked may =
    let free : Free = free_in u.qpus in
    comes_into (renderer_of r.number) (with_lists u r.number) (JobTurned rights K r.number) (UnitsServed rights K) (λ turned one. lists_served rights K u r.number turned all one) (renderer_plan r.item free words) m
    (renderer_turned rights K r.number r.item free words m here picked may)

slot_serves : (rights : List Rights) (K : List ℕ → Type 0) (k : ℕ) (u : Units) (q : Qpu) (slot : Option Thread) (words m : List ℕ) → active_of q ≡ slot → K m → UnitsServed rights K u → QpuServed rights K q
    → SlotServed rights K (queue_count q.second q.queue0.items) (queue_count q.second q.queue1.items) slot → IsTrue (glance_result (ready_by slot q) m)
    → Comes (record { unit = TheQpu k; job = job_of_thread slot }) (UnitsServed rights K) (plan_mapped (with_qpu u k) (plan_by slot q words)) m
slot_serves rights K k u q None words m active here all known thread may = absurd (false≢true may)
slot_serves rights K k u q (Some t) words m active here all known thread may =
    let who : Who = record { unit = TheQpu k; job = t.job } in
    let queued0 : ℕ = queue_count q.second q.queue0.items in
    let queued1 : ℕ = queue_count q.second q.queue1.items in
    let plan : Plan ThreadTurn = thread_plan t words in
    comes_into who (with_qpu u k) (QpuServed rights K) (UnitsServed rights K) (λ next one. qpu_served rights K u k next all one) (plan_mapped (went q t) plan) m
    (comes_into who (went q t) (ThreadGoes rights K queued0 queued1 t) (QpuServed rights K) (λ turn one. went_served rights K q t turn active known one) plan m (thread_goes rights K queued0 queued1 t who words m here thread may))

qpu_serves : (rights : List Rights) (K : List ℕ → Type 0) (k : ℕ) (u : Units) (found : Option Qpu) (words m : List ℕ) → K m → UnitsServed rights K u → IfSome found (QpuServed rights K)
    → IsTrue (glance_result (qpu_may found) m) → Comes (qpu_turn u k found words).who (UnitsServed rights K) (qpu_turn u k found words).plan m
qpu_serves rights K k u None words m here all known may = absurd (false≢true may)
qpu_serves rights K k u (Some q) words m here all known may = slot_serves rights K k u q (active_of q) words m refl here all known (active_served rights K q known) may

request_serves : (rights : List Rights) (K : List ℕ → Type 0) (k tmu : ℕ) (u : Units) (q : Qpu) (found : Option Request) (words m : List ℕ) → UnitsServed rights K u → QpuServed rights K q → oldest (queue_of q tmu) ≡ found
    → Comes (record { unit = TheTmu k tmu; job = job_of_request found }) (UnitsServed rights K) (plan_mapped (with_qpu u k) (serving found q tmu words)) m
request_serves rights K k tmu u q None words m all known is = qpu_served rights K u k q all known
request_serves rights K k tmu u q (Some request) words m all known is =
    let who : Who = record { unit = TheTmu k tmu; job = request.job } in
    let plan : Plan (Option (List ℕ)) = ask_plan request.ask words in
    comes_into who (with_qpu u k) (QpuServed rights K) (UnitsServed rights K) (λ next one. qpu_served rights K u k next all one) (plan_mapped (after_service q tmu request) plan) m
    (comes_any who (QpuServed rights K) (after_service q tmu request) (λ row. served_served rights K tmu q request row known is) plan m)

tmu_serves : (rights : List Rights) (K : List ℕ → Type 0) (k tmu : ℕ) (u : Units) (found : Option Qpu) (words m : List ℕ) → UnitsServed rights K u → IfSome found (QpuServed rights K)
    → IsTrue (glance_result (tmu_may found tmu) m) → Comes (tmu_turn u k tmu found words).who (UnitsServed rights K) (tmu_turn u k tmu found words).plan m
tmu_serves rights K k tmu u None words m all known may = absurd (false≢true may)
tmu_serves rights K k tmu u (Some q) words m all known may = request_serves rights K k tmu u q (oldest (queue_of q tmu)) words m all known refl

pub unit_serves : (rights : List Rights) (K : List ℕ → Type 0) (u : Units) (unit : Actor) (words m : List ℕ) → K m → UnitsServed rights K u → IsTrue (glance_result (unit_ready u unit) m)
    → Comes (unit_turn u unit words).who (UnitsServed rights K) (unit_turn u unit words).plan m
unit_serves rights K u TheBinner words m here all may = binner_serves rights K u (binner_job u) words m here all (first_fine (JobServed rights K) has_binner_work 0 u.jobs all.jobs) may
unit_serves rights K u TheRenderer words m here all may = renderer_serves rights K u (renderer_job u) words m here all (first_fine (JobServed rights K) has_renderer_work 0 u.jobs all.jobs) may
unit_serves rights K u (TheQpu k) words m here all may = qpu_serves rights K k u (item_at u.qpus k) words m here all (item_fine (QpuServed rights K) u.qpus k all.qpus) may
unit_serves rights K u (TheTmu k tmu) words m here all may = tmu_serves rights K k tmu u (item_at u.qpus k) words m all (item_fine (QpuServed rights K) u.qpus k all.qpus) may

-- No step is undefined, so this is what is known after it.
pub steps_serve_law : StepsServe
unfolding ready turn
steps_serve_law rights plains first s event plain has fine all may =
    let K = HasReadOnly rights first in
    let one = unit_turn s.units event.unit event.words in
    let L = Inside (rights_of rights one.who.job).region in
    let G = IsSafeAccess rights in
    let P = AreFine rights plains first in
    let Q = UnitsServed rights K in
    let both = keeps_both one.who L G P Q one.plan s.memory ((units_owe_law rights plains first plain).keeps s.units s.memory event fine has may) (unit_serves rights K s.units event.unit event.words s.memory has all may) in
    let now = keeps_result one.who L G (λ next. P next × Q next) (λ wild. wild.tame refl) one.plan s.memory one.wild both in
    now.1
