-- A load takes the oldest request of its processor.
use Rattle.std.proofs.Common.{◌≡◌, ◌≤◌, ◌<◌, ◌⊎◌, ℕ, zero, suc, ◌+◌, ◌-◌, ◌==◌, ◌&&◌, Bool, true, false, List, length, Option, Some, if◌then◌else◌, sym, ◌∙◌, ap, subst, arith}
use Rattle.std.proofs.lemmas.Bool.{true≢false}
use Rattle.shader_flow.specs.Flow.{word}
use Rattle.qpu_law.specs.Home.{Home}
use Rattle.qpu_machine.specs.{declared.state.Qpu.Qpu, declared.state.Request.Request, declared.state.Thread.Thread, Bounds.finished0, Bounds.finished1, Qpu.queue_count}
use Rattle.strict_rules.specs.{Queue.queue_of, Queue.last_act, Rules.loads_none}
use Rattle.served_law.specs.Known.{AreBeside}
use Rattle.strict_law.specs.{Known.QpuStrict, Known.InOrder, Order.oldest_of}
use Rattle.served_law.proofs.{Beside.beside_turn}
use Rattle.strict_law.proofs.{Stretches.split_few, Threads.old_or_single, Orders.has_by, Orders.oldest_own, Processors.single_slot, Obey.Steps, Obey.facts}
use Rattle.qpu_isa.specs.Terms.{loads}

oldest_by : (second : Bool) (order : List Bool) (first_old first_all other_old other_all : ℕ) (threaded : Bool) → InOrder second order first_old first_all other_old other_all
    → (if second then other_old else first_old) ≤ (if second then other_all else first_all) → 1 ≤ (if second then other_all else first_all) → (1 ≤ (if second then other_old else first_old)) ⊎ (threaded ≡ false)
    → (threaded ≡ false → (if second then first_all else other_all) ≡ 0) → oldest_of order ≡ Some second
oldest_by true order first_old first_all other_old other_all threaded left few some takes single =
    oldest_own true order other_old first_all (other_all - other_old) left.is (has_by other_old other_all first_all threaded few some takes single)
oldest_by false order first_old first_all other_old other_all threaded left few some takes single =
    oldest_own false order first_old other_all (first_all - first_old) left.is (has_by first_old first_all other_all threaded few some takes single)

-- the active thread's, and the other one's
own_all : (second : Bool) (queue : List Request) (first other : Option Thread) (t : Thread) (count : Option Thread → ℕ) → (if second then other else first) ≡ Some t
    → (if second then queue_count true queue + count other else queue_count false queue + count first) ≡ queue_count second queue + count (Some t)
own_all true queue first other t count active = ap (λ slot. queue_count true queue + count slot) active
own_all false queue first other t count active = ap (λ slot. queue_count false queue + count slot) active

rest_all : (IsOf : ℕ → Home → Type 0) (order0 order1 : List Bool) (q : Qpu) (second : Bool) (t : Thread) → (left : QpuStrict IsOf order0 order1 (record q { second = second })) → (if second then q.other else q.first) ≡ Some t → t.threaded ≡ false
    → ((if second then queue_count false q.queue0.items + finished0 q.first else queue_count true q.queue0.items + finished0 q.other) ≡ 0) × ((if second then queue_count false q.queue1.items + finished1 q.first else queue_count true q.queue1.items + finished1 q.other) ≡ 0)
rest_all IsOf order0 order1 q true t left active single =
    let beside : AreBeside (Some t) q.first = subst (λ (slot : Option Thread). AreBeside slot q.first) active (beside_turn q.first q.other left.beside) in
    let none = single_slot IsOf (queue_count false q.queue0.items) (queue_count false q.queue1.items) left.first0 left.first1 t q.first beside single left.first in
    (none.all0_is, none.all1_is)
rest_all IsOf order0 order1 q false t left active single =
    let beside : AreBeside (Some t) q.other = subst (λ (slot : Option Thread). AreBeside slot q.other) active left.beside in
    let none = single_slot IsOf (queue_count true q.queue0.items) (queue_count true q.queue1.items) left.other0 left.other1 t q.other beside single left.other in
    (none.all0_is, none.all1_is)

some_one : (load : Bool) (n : ℕ) → load ≡ true → (load && n == 0) ≡ false → 1 ≤ n
some_one load zero on off = absurd (true≢false (sym (ap (λ b. b && true) on) ∙ off))
some_one load (suc n) on off = omega arith

has_some : (code : List ℕ) (tmu n : ℕ) → loads_none code tmu n ≡ false → loads (word code n) tmu ≡ true → 1 ≤ length (queue_of code tmu n)
unfolding loads_none
has_some code tmu n off load = some_one (loads (word code n) tmu) (length (queue_of code tmu n)) load off

pub oldest_at : (IsOf : ℕ → Home → Type 0) (orders : ℕ → List Bool) (m : List ℕ) (q : Qpu) (t : Thread) (w : ℕ) → Steps IsOf (orders 0) (orders 1) m q t w → (tmu : ℕ) → tmu < 2 → loads w tmu ≡ true → oldest_of (orders tmu) ≡ Some q.second
oldest_at IsOf orders m q t w one zero small load =
    let left = one.processor in
    let h = one.thread.home in
    let n : ℕ = one.thread.index in
    let known = facts IsOf (orders 0) (orders 1) m q t w one in
    let on : loads (word h.code n) 0 ≡ true = ap (λ v. loads v 0) (sym one.is) ∙ load in
    let old : ℕ = if q.second then left.other0 else left.first0 in
    let all = own_all q.second q.queue0.items q.first q.other t (λ slot. finished0 slot) one.active in
    let count = known.queue0 in
    let some = has_some h.code 0 n known.now.requests.none0 on in
    let few = split_few (last_act h.code n) (queue_of h.code 0 n) old one.thread.split0 in
    oldest_by q.second (orders 0) left.first0 (queue_count false q.queue0.items + finished0 q.first) left.other0 (queue_count true q.queue0.items + finished0 q.other) t.threaded left.in0
    (omega (arith, all, count, few)) (omega (arith, all, count, some))
    (old_or_single h n 0 old (queue_count q.second q.queue0.items + length t.results0.items) t.threaded small one.thread.at.threaded known.strict known.inside one.thread.split0 count on (omega (arith, count, some)))
    (λ single. (rest_all IsOf (orders 0) (orders 1) q q.second t left one.active single).0)
oldest_at IsOf orders m q t w one (suc zero) small load =
    let left = one.processor in
    let h = one.thread.home in
    let n : ℕ = one.thread.index in
    let known = facts IsOf (orders 0) (orders 1) m q t w one in
    let on : loads (word h.code n) 1 ≡ true = ap (λ v. loads v 1) (sym one.is) ∙ load in
    let old : ℕ = if q.second then left.other1 else left.first1 in
    let all = own_all q.second q.queue1.items q.first q.other t (λ slot. finished1 slot) one.active in
    let count = known.queue1 in
    let some = has_some h.code 1 n known.now.requests.none1 on in
    let few = split_few (last_act h.code n) (queue_of h.code 1 n) old one.thread.split1 in
    oldest_by q.second (orders 1) left.first1 (queue_count false q.queue1.items + finished1 q.first) left.other1 (queue_count true q.queue1.items + finished1 q.other) t.threaded left.in1
    (omega (arith, all, count, few)) (omega (arith, all, count, some))
    (old_or_single h n 1 old (queue_count q.second q.queue1.items + length t.results1.items) t.threaded small one.thread.at.threaded known.strict known.inside one.thread.split1 count on (omega (arith, count, some)))
    (λ single. (rest_all IsOf (orders 0) (orders 1) q q.second t left one.active single).1)
oldest_at IsOf orders m q t w one (suc (suc tmu)) small load = absurd (omega (arith, small))
