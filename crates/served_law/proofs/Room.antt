-- A processor has room for the requests of its two threads.
use Rattle.std.proofs.Common.{◌≡◌, ◌≤◌, ℕ, ◌+◌, not, Bool, true, false, List, [], ◌∷◌, length, Option, Some, None, if◌then◌else◌, refl, sym, ap, subst, arith}
use Rattle.std.proofs.lemmas.List.Sums.{sum_by-cons}
use Rattle.shader_flow.specs.Flow.{is_threaded}
use Rattle.machine_plan.specs.Regions.{Every, Rights}
use Rattle.qpu_machine.specs.{declared.state.Qpu.Qpu, declared.state.Request.Request, declared.state.Thread.Thread, Bounds.finished0, Bounds.finished1, Qpu.is_of, Qpu.queue_count}
use Rattle.qpu_law.proofs.Going.{in_checked}
use Rattle.strict_rules.specs.Queue.{requests_of, most_requests}
use Rattle.served_law.specs.Known.{ThreadServed, SlotServed, AreBeside, QpuServed}
use Rattle.promises.specs.Finished.{count_unloaded}
use Rattle.served_law.proofs.Shaders.{few_requests, serves_at}

-- each request in a queue is one thread's
both_by : (b : Bool) → (if (if false then b else not b) then 1 else 0) + (if (if true then b else not b) then 1 else 0) ≡ 1
both_by true = refl
both_by false = refl

pub both_queued : (requests : List Request) → length requests ≡ queue_count false requests + queue_count true requests
both_queued [] = refl
both_queued (one ∷ requests) =
    let rest = both_queued requests in
    let first = sum_by-cons (λ r. if is_of false r then 1 else 0) one requests in
    let second = sum_by-cons (λ r. if is_of true r then 1 else 0) one requests in
    let this = both_by one.second in
    omega (arith, rest, first, second, this)

-- A thread has half of it, where its program is threaded.
pub most_is : (code : List ℕ) (threaded : Bool) → threaded ≡ is_threaded code → most_requests code ≡ (if threaded then 2 else 4)
unfolding most_requests
most_is code threaded is = ap (λ b. if b then 2 else 4) (sym is)

thread_few : (rights : List Rights) (K : List ℕ → Type 0) (queued0 queued1 : ℕ) (t : Thread) (m : List ℕ) → K m → ThreadServed rights K queued0 queued1 t
    → (queued0 + length t.results0.items) + (queued1 + length t.results1.items) ≤ (if t.threaded then 2 else 4)
unfolding requests_of
thread_few rights K queued0 queued1 t m here left =
    let code = left.there.home.code in
    let i : ℕ = left.there.index in
    let sound = (left.there.stands m here).sound in
    let inside = in_checked code i sound left.there.at.inside in
    let few = few_requests code sound (λ k before. (serves_at code k left.there.so before).room) i (omega (arith, inside)) in
    let most = most_is code t.threaded left.there.at.threaded in
    let first = left.tmu0 in
    let second = left.tmu1 in
    omega (arith, few, most, first, second)

most_four : (threaded : Bool) (n : ℕ) → n ≤ (if threaded then 2 else 4) → n ≤ 4
most_four true n few = omega (arith, few)
most_four false n few = few

slots_few : (rights : List Rights) (K : List ℕ → Type 0) (a b c d : ℕ) (first other : Option Thread) (m : List ℕ) → K m → SlotServed rights K a b first → SlotServed rights K c d other → AreBeside first other
    → ((a + finished0 first) + (b + finished1 first)) + ((c + finished0 other) + (d + finished1 other)) ≤ 4
slots_few rights K a b c d None None m here one two beside =
    let one0 = one.0 in
    let one1 = one.1 in
    let two0 = two.0 in
    let two1 = two.1 in
    omega (arith, one0, one1, two0, two1)
slots_few rights K a b c d None (Some o) m here one two beside =
    let one0 = one.0 in
    let one1 = one.1 in
    let few = most_four o.threaded ((c + length o.results0.items) + (d + length o.results1.items)) (thread_few rights K c d o m here two) in
    omega (arith, one0, one1, few)
slots_few rights K a b c d (Some t) None m here one two beside =
    let two0 = two.0 in
    let two1 = two.1 in
    let few = most_four t.threaded ((a + length t.results0.items) + (b + length t.results1.items)) (thread_few rights K a b t m here one) in
    omega (arith, two0, two1, few)
slots_few rights K a b c d (Some t) (Some o) m here one two beside =
    let mine = subst (λ threaded. (a + length t.results0.items) + (b + length t.results1.items) ≤ (if threaded then 2 else 4)) beside.0 (thread_few rights K a b t m here one) in
    let theirs = subst (λ threaded. (c + length o.results0.items) + (d + length o.results1.items) ≤ (if threaded then 2 else 4)) beside.1 (thread_few rights K c d o m here two) in
    omega (arith, mine, theirs)

qpu_few : (rights : List Rights) (K : List ℕ → Type 0) (q : Qpu) (m : List ℕ) → K m → QpuServed rights K q → count_unloaded q ≤ 4
unfolding count_unloaded
qpu_few rights K q m here known =
    let few = slots_few rights K (queue_count false q.queue0.items) (queue_count false q.queue1.items) (queue_count true q.queue0.items) (queue_count true q.queue1.items) q.first q.other m here known.first known.other known.beside in
    let all0 = both_queued q.queue0.items in
    let all1 = both_queued q.queue1.items in
    omega (arith, few, all0, all1)

pub all_few : (rights : List Rights) (K : List ℕ → Type 0) (qpus : List Qpu) (m : List ℕ) → K m → Every (QpuServed rights K) qpus → Every (λ q. count_unloaded q ≤ 4) qpus
all_few rights K [] m here all = tt
all_few rights K (q ∷ qpus) m here all = (qpu_few rights K q m here all.0, all_few rights K qpus m here all.1)
