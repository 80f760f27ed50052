-- A machine that is finished has no unit that may step.
use Rattle.std.proofs.Common.{◌≡◌, ℕ, zero, suc, Bool, true, false, ◌&&◌, List, [], ◌∷◌, length, None, Some, IfSome, refl, sym, ap, ◌∙◌, arith}
use Rattle.std.proofs.{Math.Dec.eqb-suc-zero, lemmas.Bool.and_parts, lemmas.Bool.Decides.nat_tests}
use Rattle.std.specs.Prelude.{Option, is_none, is_some, ◌==◌, nat_lt, if◌then◌else◌, filter}
use Rattle.std.specs.List.{list_all, range_with_len}
use Rattle.field_words.specs.declared.access.Actor.TheVariants.{Binner as TheBinner, Renderer as TheRenderer, Qpu as TheQpu, Tmu as TheTmu}
use Rattle.field_words.specs.declared.access.Actor.{Actor}
use Rattle.machine_plan.specs.Glance.{glance_result, Now}
use Rattle.list_machine.specs.Lists.{Lists}
use Rattle.qpu_machine.specs.{declared.state.Qpu.Qpu, declared.state.Thread.Thread, declared.state.Request.Request}
use Rattle.qpu_machine.specs.Qpu.{ready_by, oldest, tmu_ready, is_idle}
use Rattle.machine.specs.State.{State, Units, Picked, item_at, binner_job, renderer_job}
use Rattle.machine.specs.Step.{binner_may, renderer_may, qpu_may, tmu_may, is_enabled, is_finished, ready}
use Rattle.replay.specs.Units.{unit_count, unit_at, enabled_units}

binner_rests : (u : Units) (m : List ℕ) (job : Option (Picked Lists)) → is_none job ≡ true → glance_result (binner_may u job) m ≡ false
binner_rests u m None h = refl
binner_rests u m (Some job) h = absurd (cc)

renderer_rests : (m : List ℕ) (job : Option (Picked Lists)) → is_none job ≡ true → glance_result (renderer_may job) m ≡ false
renderer_rests m None h = refl
renderer_rests m (Some job) h = absurd (cc)

idle_at : (qpus : List Qpu) (k : ℕ) → list_all is_idle qpus ≡ true → IfSome (item_at qpus k) (λ q. is_idle q ≡ true)
idle_at [] k h = tt
idle_at (q ∷ qpus) zero h = (and_parts (is_idle q) (list_all is_idle qpus) h).0
idle_at (q ∷ qpus) (suc k) h = idle_at qpus k (and_parts (is_idle q) (list_all is_idle qpus) h).1

-- neither of two threads that aren't there is ready
neither : (q : Qpu) (m : List ℕ) (second : Bool) (first other : Option Thread) → is_none first ≡ true → is_none other ≡ true → glance_result (ready_by (if second then other else first) q) m ≡ false
neither q m true None None f o = refl
neither q m false None None f o = refl
neither q m second None (Some t) f o = absurd (cc)
neither q m second (Some t) other f o = absurd (cc)

qpu_rests : (m : List ℕ) (q : Option Qpu) → IfSome q (λ one. is_idle one ≡ true) → glance_result (qpu_may q) m ≡ false
qpu_rests m None h = refl
qpu_rests m (Some q) h =
    let threads = (and_parts (is_none q.first && is_none q.other) (length q.queue0.items == 0 && length q.queue1.items == 0) h).0 in
    neither q m q.second q.first q.other (and_parts (is_none q.first) (is_none q.other) threads).0 (and_parts (is_none q.first) (is_none q.other) threads).1

no_oldest : (queue : List Request) → (length queue == 0) ≡ true → is_some (oldest queue) ≡ false
no_oldest [] h = refl
no_oldest (one ∷ queue) h = absurd (let more : (length (one ∷ queue) == 0) ≡ false = eqb-suc-zero (length queue) in let clash : true ≡ false = sym h ∙ more in cc)

tmu_rests : (m : List ℕ) (n : ℕ) (q : Option Qpu) → IfSome q (λ one. is_idle one ≡ true) → glance_result (tmu_may q n) m ≡ false
tmu_rests m n None h = refl
tmu_rests m zero (Some q) h =
    let queues = (and_parts (is_none q.first && is_none q.other) (length q.queue0.items == 0 && length q.queue1.items == 0) h).1 in
    no_oldest q.queue0.items (and_parts (length q.queue0.items == 0) (length q.queue1.items == 0) queues).0
tmu_rests m (suc zero) (Some q) h =
    let queues = (and_parts (is_none q.first && is_none q.other) (length q.queue0.items == 0 && length q.queue1.items == 0) h).1 in
    no_oldest q.queue1.items (and_parts (length q.queue0.items == 0) (length q.queue1.items == 0) queues).1
tmu_rests m (suc (suc n)) (Some q) h =
    let past : nat_lt (suc (suc n)) 2 ≡ false = grind (arith, nat_tests) in
    ap (λ below. glance_result (if below then tmu_ready q (suc (suc n)) else Now false) m) past

pub all_rest : (s : State) (unit : Actor) → is_finished s ≡ true → is_enabled s unit ≡ false
unfolding is_finished is_enabled ready
all_rest s TheBinner h =
    let jobs = (and_parts (is_none (binner_job s.units) && is_none (renderer_job s.units)) (list_all is_idle s.units.qpus) h).0 in
    binner_rests s.units s.memory (binner_job s.units) (and_parts (is_none (binner_job s.units)) (is_none (renderer_job s.units)) jobs).0
all_rest s TheRenderer h =
    let jobs = (and_parts (is_none (binner_job s.units) && is_none (renderer_job s.units)) (list_all is_idle s.units.qpus) h).0 in
    renderer_rests s.memory (renderer_job s.units) (and_parts (is_none (binner_job s.units)) (is_none (renderer_job s.units)) jobs).1
all_rest s (TheQpu k) h =
    qpu_rests s.memory (item_at s.units.qpus k) (idle_at s.units.qpus k (and_parts (is_none (binner_job s.units) && is_none (renderer_job s.units)) (list_all is_idle s.units.qpus) h).1)
all_rest s (TheTmu k n) h =
    tmu_rests s.memory n (item_at s.units.qpus k) (idle_at s.units.qpus k (and_parts (is_none (binner_job s.units) && is_none (renderer_job s.units)) (list_all is_idle s.units.qpus) h).1)

-- so one that has a unit that may step isn't finished
none_in : (p : ℕ → Bool) (ns : List ℕ) → ((n : ℕ) → p n ≡ false) → filter p ns ≡ []
none_in p [] none = refl
none_in p (n ∷ ns) none = ap (λ b. if b then n ∷ filter p ns else filter p ns) (none n) ∙ none_in p ns none

goes_by : (s : State) (units : List ℕ) (over : Bool) → is_finished s ≡ over → units ≡ enabled_units s → false ≡ (length units == 0) → is_finished s ≡ false
goes_by s units false is units_are some = is
goes_by s units true is units_are some =
    let none : units ≡ [] = units_are ∙ none_in (λ n. is_enabled s (unit_at n)) (range_with_len 0 unit_count) (λ n. all_rest s (unit_at n) is) in
    let clash : false ≡ true = some ∙ ap (λ us. length us == 0) none in
    absurd (cc)

pub goes_on : (s : State) (units : List ℕ) → units ≡ enabled_units s → false ≡ (length units == 0) → is_finished s ≡ false
goes_on s units units_are some = goes_by s units (is_finished s) refl units_are some
