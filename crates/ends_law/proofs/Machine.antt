-- One step of the machine leaves less, whichever unit steps.
use Rattle.std.proofs.Common.{◌≡◌, ◌≤◌, ℕ, ◌+◌, ◌-◌, ◌*◌, ◌&&◌, ◌||◌, Bool, true, false, IsTrue, if◌then◌else◌, List, Option, Some, None, IfSome, refl, sym, ◌∙◌, subst, arith}
use Rattle.std.proofs.lemmas.Bool.{and_from, false≢true, or_left, or_right}
use Rattle.std.specs.Prelude.{is_some, nat_lt}
use Rattle.field_words.specs.declared.access.Actor.TheVariants.{Binner as TheBinner, Renderer as TheRenderer, Qpu as TheQpu, Tmu as TheTmu}
use Rattle.field_words.specs.declared.access.Actor.{Actor}
use Rattle.machine_plan.specs.Regions.{Inside, Rights, rights_of, IsSafeAccess, IsSafeIn, HasReadOnly}
use Rattle.machine_plan.specs.{declared.launch.Free.Free, declared.launch.Launch.Launch, declared.who.Who.Who, Glance.glance_result, World.plan_mapped}
use Rattle.machine_plan.specs.Plan.{Plan, Keeps}
use Rattle.machine_plan.proofs.{Plans.keeps_weaker, Worlds.keeps_result}
use Rattle.list_machine.specs.Binner.{has_binner_work, binner_ready, binner_plan}
use Rattle.list_machine.specs.Lists.{Lists, Turned, binner_of, renderer_of}
use Rattle.list_machine.specs.Renderer.{has_renderer_work, renderer_ready, renderer_plan}
use Rattle.list_law.specs.Lists.{TurnedFine}
use Rattle.list_law.proofs.{Binning.binner_keeps, Rendering.renderer_keeps}
use Rattle.qpu_machine.specs.Qpu.{active_of, job_of_thread, ready_by, plan_by, went, queue_of, oldest, job_of_request, tmu_ready, after_service, serving, free_in}
use Rattle.qpu_machine.specs.{declared.state.Qpu.Qpu, declared.state.Request.Request, declared.state.Thread.Thread, Request.ask_plan, Start.thread_of}
use Rattle.qpu_machine.specs.Step.{ThreadTurn, thread_plan}
use Rattle.machine.specs.Step.{with_launch, with_lists, with_qpu, is_ahead, binner_may, renderer_may, qpu_may, tmu_may, binner_turn, renderer_turn, qpu_turn, tmu_turn, unit_ready, unit_turn, unit_job, number_or_zero, qpu_job, tmu_job, ready, turn}
use Rattle.machine.specs.State.{Units, Picked, item_at, put_at, binner_job, renderer_job}
use Rattle.machine_law.specs.Laws.{AreFine}
use Rattle.machine_law.proofs.{Owes.units_owe_law, Owes.not_held, Sound.there_on}
use Rattle.ends_law.specs.Left.{EachWithin, LaunchSo, SlotLeft, QpuLeft, JobEnds, CountedEnds, UnitsLeft, StepLess, StepsLess}
use Rattle.ends_law.specs.Loops.{IsShort}
use Rattle.promises.specs.Steps.{stays, renderer_stays, unit_stays, one_if}
use Rattle.ends_law.proofs.Processors.{CountedGoes, QpuLess, thread_counted, active_left, went_left, served_left, started_left}
use Rattle.ends_law.proofs.{Binner.ListsLess, Binner.launch_steps, Binner.launch_at_most, Binner.binner_goes, Renderer.renderer_goes}
use Rattle.ends_law.proofs.Plans.{AnyLook, AnyAccess, Comes, comes_any, comes_into, keeps_both}
use Rattle.ends_law.proofs.Shares.{more_within, Hole, hole_at, PickedHole, picked_hole}
use Rattle.ends_law.proofs.Threads.{thread_begins}

-- What a step of a list unit of a job with these rights came to: less is left of the job, and the program that it starts is short.
record JobTurned (r : Rights) (K : List ℕ → Type 0) (w n stay : ℕ) (turned : Turned) : Type 0 where
  rest : ℕ
  left : JobEnds r K w rest turned.lists
  launch : IfSome turned.launch (LaunchSo r K (IsShort w))
  less : rest + launch_steps w turned.launch + 1 ≤ n + (1 + w) * stay

job_turned : (r : Rights) (K : List ℕ → Type 0) (w n stay : ℕ) (s : Lists) (turned : Turned) → (ends : JobEnds r K w n s)
    → TurnedFine r K (LaunchSo r K (IsShort w)) ends.config ends.frame turned → ListsLess K ends.config w ends.most n stay turned → JobTurned r K w n stay turned
job_turned r K w n stay s turned ends fine less = record {
  rest = less.rest;
  left = record { config = ends.config; frame = ends.frame; allocates = ends.allocates; lists = fine.lists; most = ends.most; left = less.left };
  launch = fine.launch;
  less = less.less;
}

-- what is kept along a plan, and what it comes to, make what it comes to
pub comes_by : {R : Type 0} (who : Who) (L : ℕ → ℕ → Type 0) (r : Rights) (P Q S : R → Type 0) → ((one : R) → P one → Q one → S one) → (plan : Plan R) (m : List ℕ)
    → Keeps who L (IsSafeIn r) (λ k one. P one) plan m → Comes who Q plan m → Comes who S plan m
comes_by who L r P Q S joins plan m keeps comes =
    keeps_weaker who L AnyLook (IsSafeIn r) AnyAccess (λ k one. P one × Q one) (λ k one. S one) (λ p n lies. tt) (λ a safe. tt) (λ k one both. joins one both.0 both.1) plan m
    (keeps_both who L (IsSafeIn r) P Q plan m keeps comes)

binner_turned : (who : Who) (r : Rights) (K : List ℕ → Type 0) (w n : ℕ) (s : Lists) (free : Free) (words m : List ℕ) → K m → JobEnds r K w n s → glance_result (binner_ready s free) m ≡ true
    → Comes who (JobTurned r K w n 0) (binner_plan s free words) m
binner_turned who r K w n s free words m here ends on =
    let O = LaunchSo r K (IsShort w) in
    comes_by who (Inside r.region) r (λ turned. TurnedFine r K O ends.config ends.frame turned) (ListsLess K ends.config w ends.most n 0) (JobTurned r K w n 0)
    (λ turned fine less. job_turned r K w n 0 s turned ends fine less) (binner_plan s free words) m
    (binner_keeps who r K O ends.config ends.frame s free words m ends.allocates here ends.lists on)
    (binner_goes who K ends.config w ends.most n s free words m here ends.lists.configs ends.left on)

renderer_turned : (who : Who) (r : Rights) (K : List ℕ → Type 0) (w n : ℕ) (s : Lists) (free : Free) (words m : List ℕ) → K m → JobEnds r K w n s → glance_result (renderer_ready s) m ≡ true
    → Comes who (JobTurned r K w n (one_if (stays s words))) (renderer_plan s free words) m
renderer_turned who r K w n s free words m here ends on =
    let O = LaunchSo r K (IsShort w) in
    let stay : ℕ = one_if (stays s words) in
    comes_by who (Inside r.region) r (λ turned. TurnedFine r K O ends.config ends.frame turned) (ListsLess K ends.config w ends.most n stay) (JobTurned r K w n stay)
    (λ turned fine less. job_turned r K w n stay s turned ends fine less) (renderer_plan s free words) m
    (renderer_keeps who r K O ends.config ends.frame s free words m here ends.lists on)
    (renderer_goes who K ends.config w ends.most n s free words m here ends.left ends.lists.closed on)

-- Among all units: job j, of which rest is left, starts a program of at most v steps if it is counted.
launch_left : (rights : ℕ → Rights) (K : List ℕ → Type 0) (mine : ℕ → Bool) (v j n : ℕ) (launch : Option Launch) (qpus : List Qpu) → (IsTrue (mine j) → IfSome launch (LaunchSo (rights j) K (IsShort v))) → EachWithin (QpuLeft rights K mine) 0 n qpus
    → EachWithin (QpuLeft rights K mine) 0 (n + launch_steps v launch) (with_launch j launch qpus)
unfolding thread_of
launch_left rights K mine v j n None qpus short all = more_within (QpuLeft rights K mine) 0 n (n + 0) qpus (omega arith) all
launch_left rights K mine v j n (Some launch) qpus short all = started_left rights K mine 0 n v launch.threaded (thread_of j launch) qpus (λ own. thread_begins (rights j) K v j launch (short own)) all

abbrev Picking : (ℕ → Rights) → (List ℕ → Type 0) → (ℕ → Bool) → (w n : ℕ) → (Lists → Bool) → List Lists → Picked Lists → Type 0
Picking rights K mine w n p jobs one = PickedHole (CountedEnds rights K mine w) p 0 n jobs one

lists_turned : (rights : ℕ → Rights) (K : List ℕ → Type 0) (mine : ℕ → Bool) (w v n cost stay rest : ℕ) (p : Lists → Bool) (u : Units) (one : Picked Lists) (turned : Turned) → (left : UnitsLeft rights K mine w n u) → (picked : Picking rights K mine w left.of_jobs p u.jobs one)
    → CountedEnds rights K mine w one.number rest turned.lists → (IsTrue (mine one.number) → IfSome turned.launch (LaunchSo (rights one.number) K (IsShort v))) → rest + launch_steps v turned.launch + cost ≤ picked.hole.share + (1 + w) * stay
    → StepLess rights K mine w n cost stay (with_lists u one.number turned)
lists_turned rights K mine w v n cost stay rest p u one turned left picked ends short fewer =
    let P = CountedEnds rights K mine w in
    let share : ℕ = picked.hole.share in
    let jobs : ℕ = left.of_jobs + rest - share in
    let qpus : ℕ = left.of_qpus + launch_steps v turned.launch in
    let inside : share ≤ left.of_jobs = picked.hole.inside in
    let is : picked.at ≡ one.number = (let number = picked.is in omega (arith, number)) in
    let sum = left.sum in
    record {
      rest = jobs + qpus;
      left = record {
        of_jobs = jobs;
        of_qpus = qpus;
        jobs = subst (λ k. EachWithin P 0 jobs (put_at u.jobs k turned.lists)) is (picked.hole.put turned.lists rest jobs ends (omega (arith, inside)));
        qpus = launch_left rights K mine v one.number left.of_qpus turned.launch u.qpus short left.qpus;
        sum = omega arith;
      };
      less = omega (arith, inside, sum, fewer);
    }

own_turned : (rights : ℕ → Rights) (K : List ℕ → Type 0) (mine : ℕ → Bool) (w n stay : ℕ) (p : Lists → Bool) (u : Units) (one : Picked Lists) (turned : Turned) → (left : UnitsLeft rights K mine w n u) → (picked : Picking rights K mine w left.of_jobs p u.jobs one)
    → JobTurned (rights one.number) K w picked.hole.share stay turned → StepLess rights K mine w n 1 stay (with_lists u one.number turned)
own_turned rights K mine w n stay p u one turned left picked less = lists_turned rights K mine w w n 1 stay less.rest p u one turned left picked (λ own. less.left) (λ own. less.launch) less.less

other_turned : (rights : ℕ → Rights) (K : List ℕ → Type 0) (mine : ℕ → Bool) (w n : ℕ) (p : Lists → Bool) (u : Units) (one : Picked Lists) (turned : Turned) → mine one.number ≡ false → (left : UnitsLeft rights K mine w n u) → Picking rights K mine w left.of_jobs p u.jobs one
    → StepLess rights K mine w n 0 0 (with_lists u one.number turned)
other_turned rights K mine w n p u one turned other left picked =
    let none = launch_at_most 0 turned.launch in
    lists_turned rights K mine w 0 n 0 0 picked.hole.share p u one turned left picked (λ own. absurd (false≢true (subst (λ b. IsTrue (b && (has_binner_work turned.lists || has_renderer_work turned.lists))) other own)))
    (λ own. absurd (false≢true (sym other ∙ own))) (omega (arith, none))

qpu_turned : (rights : ℕ → Rights) (K : List ℕ → Type 0) (mine : ℕ → Bool) (w n k cost stay : ℕ) (u : Units) (q next : Qpu) → (left : UnitsLeft rights K mine w n u) → (hole : Hole (QpuLeft rights K mine) 0 left.of_qpus k k u.qpus q) → QpuLess rights K mine k hole.share cost next
    → StepLess rights K mine w n cost stay (with_qpu u k next)
qpu_turned rights K mine w n k cost stay u q next left hole less =
    let share : ℕ = hole.share in
    let qpus : ℕ = left.of_qpus + less.rest - share in
    let inside : share ≤ left.of_qpus = hole.inside in
    let sum = left.sum in
    let fewer : less.rest + cost ≤ share = less.less in
    record {
      rest = left.of_jobs + qpus;
      left = record { of_jobs = left.of_jobs; of_qpus = qpus; jobs = left.jobs; qpus = hole.put next less.rest qpus less.left (omega (arith, inside)); sum = omega arith };
      less = omega (arith, inside, sum, fewer);
    }

-- The units' turns.
binner_by : (rights : ℕ → Rights) (K : List ℕ → Type 0) (mine : ℕ → Bool) (w n : ℕ) (u : Units) (b : Picked Lists) (words m : List ℕ) (own : Bool) → mine b.number ≡ own → K m → (left : UnitsLeft rights K mine w n u) → Picking rights K mine w left.of_jobs has_binner_work u.jobs b
    → glance_result (binner_ready b.item (free_in u.qpus)) m ≡ true → Comes (binner_of b.number) (StepLess rights K mine w n (one_if own) (one_if (own && false))) (plan_mapped (with_lists u b.number) (binner_plan b.item (free_in u.qpus) words)) m
binner_by rights K mine w n u b words m true is here left picked on =
    let who : Who = binner_of b.number in
    let share : ℕ = picked.hole.share in
    let works : IsTrue (mine b.number && (has_binner_work b.item || has_renderer_work b.item)) = and_from (mine b.number) (has_binner_work b.item || has_renderer_work b.item) is (or_left (has_binner_work b.item) (has_renderer_work b.item) picked.on) in
    comes_into who (with_lists u b.number) (JobTurned (rights b.number) K w share 0) (StepLess rights K mine w n 1 0) (λ turned less. own_turned rights K mine w n 0 has_binner_work u b turned left picked less) (binner_plan b.item (free_in u.qpus) words) m
    (binner_turned who (rights b.number) K w share b.item (free_in u.qpus) words m here (picked.hole.known works) on)
binner_by rights K mine w n u b words m false is here left picked on =
    comes_any (binner_of b.number) (StepLess rights K mine w n 0 0) (with_lists u b.number) (λ turned. other_turned rights K mine w n has_binner_work u b turned is left picked) (binner_plan b.item (free_in u.qpus) words) m

renderer_by : (rights : ℕ → Rights) (K : List ℕ → Type 0) (mine : ℕ → Bool) (w n : ℕ) (u : Units) (r : Picked Lists) (words m : List ℕ) (own : Bool) → mine r.number ≡ own → K m → (left : UnitsLeft rights K mine w n u) → Picking rights K mine w left.of_jobs has_renderer_work u.jobs r
    → glance_result (renderer_ready r.item) m ≡ true → Comes (renderer_of r.number) (StepLess rights K mine w n (one_if own) (one_if (own && stays r.item words))) (plan_mapped (with_lists u r.number) (renderer_plan r.item (free_in u.qpus) words)) m
renderer_by rights K mine w n u r words m true is here left picked on =
    let who : Who = renderer_of r.number in
    let share : ℕ = picked.hole.share in
    let stay : ℕ = one_if (stays r.item words) in
    let works : IsTrue (mine r.number && (has_binner_work r.item || has_renderer_work r.item)) = and_from (mine r.number) (has_binner_work r.item || has_renderer_work r.item) is (or_right (has_binner_work r.item) (has_renderer_work r.item) picked.on) in
    comes_into who (with_lists u r.number) (JobTurned (rights r.number) K w share stay) (StepLess rights K mine w n 1 stay) (λ turned less. own_turned rights K mine w n stay has_renderer_work u r turned left picked less) (renderer_plan r.item (free_in u.qpus) words) m
    (renderer_turned who (rights r.number) K w share r.item (free_in u.qpus) words m here (picked.hole.known works) on)
renderer_by rights K mine w n u r words m false is here left picked on =
    comes_any (renderer_of r.number) (StepLess rights K mine w n 0 0) (with_lists u r.number) (λ turned. other_turned rights K mine w n has_renderer_work u r turned is left picked) (renderer_plan r.item (free_in u.qpus) words) m

binner_less : (rights : ℕ → Rights) (K : List ℕ → Type 0) (mine : ℕ → Bool) (w n : ℕ) (u : Units) (found : Option (Picked Lists)) (words m : List ℕ) → K m → (left : UnitsLeft rights K mine w n u) → IfSome found (Picking rights K mine w left.of_jobs has_binner_work u.jobs)
    → IsTrue (glance_result (binner_may u found) m) → Comes (binner_turn u found words).who (StepLess rights K mine w n (one_if (mine (number_or_zero found))) (one_if (mine (number_or_zero found) && false))) (binner_turn u found words).plan m
binner_less rights K mine w n u None words m here left picked may = absurd (false≢true may)
binner_less rights K mine w n u (Some b) words m here left picked may =
    binner_by rights K mine w n u b words m (mine b.number) refl here left picked (not_held (is_ahead b.number (renderer_job u)) (binner_ready b.item (free_in u.qpus)) m may)

renderer_less : (rights : ℕ → Rights) (K : List ℕ → Type 0) (mine : ℕ → Bool) (w n : ℕ) (u : Units) (found : Option (Picked Lists)) (words m : List ℕ) → K m → (left : UnitsLeft rights K mine w n u) → IfSome found (Picking rights K mine w left.of_jobs has_renderer_work u.jobs)
    → IsTrue (glance_result (renderer_may found) m) → Comes (renderer_turn u found words).who (StepLess rights K mine w n (one_if (mine (number_or_zero found))) (one_if (mine (number_or_zero found) && renderer_stays found words))) (renderer_turn u found words).plan m
renderer_less rights K mine w n u None words m here left picked may = absurd (false≢true may)
renderer_less rights K mine w n u (Some r) words m here left picked may = renderer_by rights K mine w n u r words m (mine r.number) refl here left picked may

slot_less : (rights : ℕ → Rights) (K : List ℕ → Type 0) (mine : ℕ → Bool) (w n k : ℕ) (u : Units) (q : Qpu) (slot : Option Thread) (words m : List ℕ) → K m → (left : UnitsLeft rights K mine w n u) → (hole : Hole (QpuLeft rights K mine) 0 left.of_qpus k k u.qpus q)
    → SlotLeft rights K mine (if q.second then hole.known.others else hole.known.firsts) slot → IsTrue (glance_result (ready_by slot q) m)
    → Comes (record { unit = TheQpu k; job = job_of_thread slot }) (StepLess rights K mine w n (one_if (mine (job_of_thread slot))) (one_if (mine (job_of_thread slot) && false))) (plan_mapped (with_qpu u k) (plan_by slot q words)) m
slot_less rights K mine w n k u q None words m here left hole thread may = absurd (false≢true may)
slot_less rights K mine w n k u q (Some t) words m here left hole thread may =
    let who : Who = record { unit = TheQpu k; job = t.job } in
    let cost : ℕ = one_if (mine t.job) in
    let stay : ℕ = one_if (mine t.job && false) in
    let share : ℕ = if q.second then hole.known.others else hole.known.firsts in
    let plan : Plan ThreadTurn = thread_plan t words in
    comes_into who (with_qpu u k) (QpuLess rights K mine k hole.share cost) (StepLess rights K mine w n cost stay) (λ next less. qpu_turned rights K mine w n k cost stay u q next left hole less) (plan_mapped (went q t) plan) m
    (comes_into who (went q t) (CountedGoes rights K mine share t) (QpuLess rights K mine k hole.share cost) (λ turn goes. went_left rights K mine k hole.share q t turn hole.known goes) plan m (thread_counted rights K mine share t who words m here thread))

qpu_less : (rights : ℕ → Rights) (K : List ℕ → Type 0) (mine : ℕ → Bool) (w n k : ℕ) (u : Units) (found : Option Qpu) (words m : List ℕ) → K m → (left : UnitsLeft rights K mine w n u) → IfSome found (Hole (QpuLeft rights K mine) 0 left.of_qpus k k u.qpus)
    → IsTrue (glance_result (qpu_may found) m) → Comes (qpu_turn u k found words).who (StepLess rights K mine w n (one_if (mine (qpu_job found))) (one_if (mine (qpu_job found) && false))) (qpu_turn u k found words).plan m
qpu_less rights K mine w n k u None words m here left hole may = absurd (false≢true may)
qpu_less rights K mine w n k u (Some q) words m here left hole may = slot_less rights K mine w n k u q (active_of q) words m here left hole (active_left rights K mine k hole.share q hole.known) may

request_less : (rights : ℕ → Rights) (K : List ℕ → Type 0) (mine : ℕ → Bool) (w n k tmu : ℕ) (u : Units) (q : Qpu) (found : Option Request) (words m : List ℕ) → (left : UnitsLeft rights K mine w n u) → (hole : Hole (QpuLeft rights K mine) 0 left.of_qpus k k u.qpus q)
    → oldest (queue_of q tmu) ≡ found → is_some found ≡ true
    → Comes (record { unit = TheTmu k tmu; job = job_of_request found }) (StepLess rights K mine w n (one_if (mine (job_of_request found))) (one_if (mine (job_of_request found) && false))) (plan_mapped (with_qpu u k) (serving found q tmu words)) m
request_less rights K mine w n k tmu u q None words m left hole is on = absurd (false≢true on)
request_less rights K mine w n k tmu u q (Some request) words m left hole is on =
    let who : Who = record { unit = TheTmu k tmu; job = request.job } in
    let cost : ℕ = one_if (mine request.job) in
    let stay : ℕ = one_if (mine request.job && false) in
    let plan : Plan (Option (List ℕ)) = ask_plan request.ask words in
    comes_into who (with_qpu u k) (QpuLess rights K mine k hole.share cost) (StepLess rights K mine w n cost stay) (λ next less. qpu_turned rights K mine w n k cost stay u q next left hole less) (plan_mapped (after_service q tmu request) plan) m
    (comes_any who (QpuLess rights K mine k hole.share cost) (after_service q tmu request) (λ row. served_left rights K mine k hole.share tmu q request row hole.known is) plan m)

tmu_less : (rights : ℕ → Rights) (K : List ℕ → Type 0) (mine : ℕ → Bool) (w n k tmu : ℕ) (u : Units) (found : Option Qpu) (words m : List ℕ) → (left : UnitsLeft rights K mine w n u) → IfSome found (Hole (QpuLeft rights K mine) 0 left.of_qpus k k u.qpus)
    → IsTrue (glance_result (tmu_may found tmu) m) → Comes (tmu_turn u k tmu found words).who (StepLess rights K mine w n (one_if (mine (tmu_job found tmu))) (one_if (mine (tmu_job found tmu) && false))) (tmu_turn u k tmu found words).plan m
tmu_less rights K mine w n k tmu u None words m left hole may = absurd (false≢true may)
tmu_less rights K mine w n k tmu u (Some q) words m left hole may = request_less rights K mine w n k tmu u q (oldest (queue_of q tmu)) words m left hole refl (there_on (nat_lt tmu 2) (tmu_ready q tmu) m may)

pub unit_less : (rights : ℕ → Rights) (K : List ℕ → Type 0) (mine : ℕ → Bool) (w n : ℕ) (u : Units) (unit : Actor) (words m : List ℕ) → K m → (left : UnitsLeft rights K mine w n u) → IsTrue (glance_result (unit_ready u unit) m)
    → Comes (unit_turn u unit words).who (StepLess rights K mine w n (one_if (mine (unit_job u unit))) (one_if (mine (unit_job u unit) && unit_stays u unit words))) (unit_turn u unit words).plan m
unit_less rights K mine w n u TheBinner words m here left may = binner_less rights K mine w n u (binner_job u) words m here left (picked_hole (CountedEnds rights K mine w) has_binner_work 0 left.of_jobs u.jobs left.jobs) may
unit_less rights K mine w n u TheRenderer words m here left may = renderer_less rights K mine w n u (renderer_job u) words m here left (picked_hole (CountedEnds rights K mine w) has_renderer_work 0 left.of_jobs u.jobs left.jobs) may
unit_less rights K mine w n u (TheQpu k) words m here left may = qpu_less rights K mine w n k u (item_at u.qpus k) words m here left (hole_at (QpuLeft rights K mine) 0 left.of_qpus k k u.qpus (omega arith) left.qpus) may
unit_less rights K mine w n u (TheTmu k tmu) words m here left may = tmu_less rights K mine w n k tmu u (item_at u.qpus k) words m left (hole_at (QpuLeft rights K mine) 0 left.of_qpus k k u.qpus (omega arith) left.qpus) may

-- No step is undefined, so this is what it leaves.
pub steps_less_law : StepsLess
unfolding ready turn
steps_less_law rights plains first mine w n s event plain has fine left may =
    let K = HasReadOnly rights first in
    let one = unit_turn s.units event.unit event.words in
    let own : Bool = mine (unit_job s.units event.unit) in
    let L = Inside (rights_of rights one.who.job).region in
    let G = IsSafeAccess rights in
    let P = AreFine rights plains first in
    let Q = StepLess (rights_of rights) K mine w n (one_if own) (one_if (own && unit_stays s.units event.unit event.words)) in
    let both = keeps_both one.who L G P Q one.plan s.memory ((units_owe_law rights plains first plain).keeps s.units s.memory event fine has may) (unit_less (rights_of rights) K mine w n s.units event.unit event.words s.memory has left may) in
    let now = keeps_result one.who L G (λ next. P next × Q next) (λ wild. wild.tame refl) one.plan s.memory one.wild both in
    now.1
