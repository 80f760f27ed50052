-- The step of a TMU: the thread that gets a result has room, and the code's step is the definition's.
use Rattle.std.proofs.Common.{◌≡◌, ◌≢◌, ◌≤◌, ◌<◌, ℕ, zero, suc, ◌+◌, ◌==◌, Bool, true, false, if◌then◌else◌, List, [], ◌∷◌, ◌++◌, drop, length, Option, None, Some, refl, sym, ◌∙◌, ap, subst, arith}
use Rattle.std.proofs.lemmas.Grind.{common_steps}
use Rattle.std.specs.Prelude.{option_map}
use Rattle.machine_plan.specs.Plan.{Shows, outcome_of}
use Rattle.machine_plan.proofs.Worlds.{shows_mapped}
use Rattle.qpu_machine.specs.Qpu.{is_of, queue_count, queue_of, oldest, slot_of, with_result, after_drop, result_given, after_service, serving, tmu_plan}
use Rattle.qpu_machine.specs.{State.Access, State.Qpu, State.Request, State.Thread, State.Who, Request.ask_plan}
use Rattle.qpu_machine.specs.Bounds.{IsNear, finished0, finished1, IsFew, IsBounded}
use Rattle.qpu_machine.proofs.Settling.{one_if, queued_first, own_request, active_few}

rest_fewer : (second : Bool) (requests : List Request) → queue_count second (drop 1 requests) ≤ queue_count second requests
rest_fewer second [] = omega arith
rest_fewer second (r ∷ requests) = omega (arith, queued_first second r requests)

own_is : (r : Request) → one_if (is_of r.second r) ≡ 1
own_is r = ap one_if (own_request r.second r.job r.ask)

rest_one_less : (second : Bool) (requests : List Request) (r : Request) → oldest requests ≡ Some r → r.second ≡ second → queue_count second (drop 1 requests) + 1 ≡ queue_count second requests
rest_one_less second [] r old own = absurd cc
rest_one_less second (x ∷ requests) r old own =
    let same : x ≡ r = cc in
    let one : one_if (is_of second x) ≡ 1 = ap (λ (y : Request). one_if (is_of second y)) same ∙ (ap (λ b. one_if (is_of b r)) (sym own) ∙ own_is r) in
    omega (arith, queued_first second x requests, one)

pub give_room0 : (q : Qpu) (tmu : ℕ) (r : Request) → IsBounded q → oldest (queue_of q tmu) ≡ Some r → tmu ≡ 0 → finished0 (slot_of (after_drop q tmu) r.second) < 8
unfolding after_drop
give_room0 q tmu r h old is =
    let few = active_few q r.second h in
    let old0 : oldest q.queue0.items ≡ Some r = subst (λ n. oldest (queue_of q n) ≡ Some r) is old in
    omega (arith, few.tmu0, rest_one_less r.second q.queue0.items r old0 refl)

other_tmu : (tmu : ℕ) → tmu ≢ 0 → (tmu == 0) ≡ false
other_tmu zero h = absurd (h refl)
other_tmu (suc n) h = grind arith

pub give_room1 : (q : Qpu) (tmu : ℕ) (r : Request) → IsBounded q → oldest (queue_of q tmu) ≡ Some r → tmu ≢ 0 → finished1 (slot_of (after_drop q tmu) r.second) < 8
unfolding after_drop
give_room1 q tmu r h old is =
    let few = active_few q r.second h in
    let old1 : oldest q.queue1.items ≡ Some r = subst (λ b. oldest (if b then q.queue0.items else q.queue1.items) ≡ Some r) (other_tmu tmu is) old in
    omega (arith, few.tmu1, rest_one_less r.second q.queue1.items r old1 refl)

-- the queues without their oldest request
few_dropped : (at_first second : Bool) (slot : Option Thread) (queue0 queue1 : List Request) → IsFew second slot queue0 queue1
    → IsFew second slot (if at_first then drop 1 queue0 else queue0) (if at_first then queue1 else drop 1 queue1)
few_dropped true second slot queue0 queue1 few = record { tmu0 = omega (arith, few.tmu0, rest_fewer second queue0); tmu1 = few.tmu1 }
few_dropped false second slot queue0 queue1 few = record { tmu0 = few.tmu0; tmu1 = omega (arith, few.tmu1, rest_fewer second queue1) }

pub dropped_bounded : (q : Qpu) (tmu : ℕ) → IsBounded q → IsBounded (after_drop q tmu)
unfolding after_drop
dropped_bounded q tmu h = record {
  first_near = h.first_near;
  other_near = h.other_near;
  first_few = few_dropped (tmu == 0) false q.first q.queue0.items q.queue1.items h.first_few;
  other_few = few_dropped (tmu == 0) true q.other q.queue0.items q.queue1.items h.other_few;
}

-- the thread with one more result
abbrev results_with : Bool → List (Option (List ℕ)) → Option (List ℕ) → List (Option (List ℕ))
results_with more results row = if more then results ++ row ∷ [] else results

one_longer : (results : List (Option (List ℕ))) (row : Option (List ℕ)) → length (results ++ row ∷ []) ≡ length results + 1
one_longer results row = grind (arith, common_steps)

near_given : (tmu : ℕ) (row : Option (List ℕ)) (slot : Option Thread) → IsNear slot → IsNear (option_map (with_result tmu row) slot)
near_given tmu row None near = tt
near_given tmu row (Some t) near = near

few_given : (tmu : ℕ) (at_first second : Bool) (slot : Option Thread) (queue0 queue1 : List Request) (r : Request) (row : Option (List ℕ)) → (tmu == 0) ≡ at_first → IsFew second slot queue0 queue1
    → oldest (if at_first then queue0 else queue1) ≡ Some r → r.second ≡ second
    → IsFew second (option_map (with_result tmu row) slot) (if at_first then drop 1 queue0 else queue0) (if at_first then queue1 else drop 1 queue1)
few_given tmu at_first second None queue0 queue1 r row is few old own = few_dropped at_first second None queue0 queue1 few
few_given tmu true second (Some t) queue0 queue1 r row is few old own =
    let less = rest_one_less second queue0 r old own in
    let longer : length (results_with (tmu == 0) t.results0.items row) ≡ length t.results0.items + 1 = ap (λ b. length (results_with b t.results0.items row)) is ∙ one_longer t.results0.items row in
    let same : length (if tmu == 0 then t.results1.items else t.results1.items ++ row ∷ []) ≡ length t.results1.items = ap (λ b. length (if b then t.results1.items else t.results1.items ++ row ∷ [])) is in
    record { tmu0 = omega (arith, few.tmu0, less, longer); tmu1 = omega (arith, few.tmu1, same) }
few_given tmu false second (Some t) queue0 queue1 r row is few old own =
    let less = rest_one_less second queue1 r old own in
    let same : length (results_with (tmu == 0) t.results0.items row) ≡ length t.results0.items = ap (λ b. length (results_with b t.results0.items row)) is in
    let longer : length (if tmu == 0 then t.results1.items else t.results1.items ++ row ∷ []) ≡ length t.results1.items + 1 = ap (λ b. length (if b then t.results1.items else t.results1.items ++ row ∷ [])) is ∙ one_longer t.results1.items row in
    record { tmu0 = omega (arith, few.tmu0, same); tmu1 = omega (arith, few.tmu1, less, longer) }

given_by : (q : Qpu) (tmu : ℕ) (r : Request) (second : Bool) (row : Option (List ℕ)) → r.second ≡ second → IsBounded q → oldest (queue_of q tmu) ≡ Some r → IsBounded (result_given (after_drop q tmu) tmu second row)
unfolding result_given after_drop
given_by q tmu r true row own h old = record {
  first_near = h.first_near;
  other_near = near_given tmu row q.other h.other_near;
  first_few = few_dropped (tmu == 0) false q.first q.queue0.items q.queue1.items h.first_few;
  other_few = few_given tmu (tmu == 0) true q.other q.queue0.items q.queue1.items r row refl h.other_few old own;
}
given_by q tmu r false row own h old = record {
  first_near = near_given tmu row q.first h.first_near;
  other_near = h.other_near;
  first_few = few_given tmu (tmu == 0) false q.first q.queue0.items q.queue1.items r row refl h.first_few old own;
  other_few = few_dropped (tmu == 0) true q.other q.queue0.items q.queue1.items h.other_few;
}

pub given_bounded : (q : Qpu) (tmu : ℕ) (r : Request) (row : Option (List ℕ)) → IsBounded q → oldest (queue_of q tmu) ≡ Some r → IsBounded (result_given (after_drop q tmu) tmu r.second row)
given_bounded q tmu r row h old = given_by q tmu r r.second row refl h old

-- the request was served
pub tmu_shows : (who : Who) (q : Qpu) (tmu : ℕ) (words m : List ℕ) (before listed : List Access) (r : Request) (result : Option (Option (List ℕ))) (last : Option Qpu) → oldest (queue_of q tmu) ≡ Some r
    → Shows (outcome_of who (ask_plan r.ask words) m) before listed m result → option_map (after_service q tmu r) result ≡ last → Shows (outcome_of who (tmu_plan q tmu words) m) before listed m last
tmu_shows who q tmu words m before listed r result last old shows last_is =
    let shown : Shows (outcome_of who (serving (Some r) q tmu words) m) before listed m (option_map (after_service q tmu r) result) = shows_mapped (after_service q tmu r) who (ask_plan r.ask words) m before listed m result shows in
    subst (λ oldest_one. Shows (outcome_of who (serving oldest_one q tmu words) m) before listed m last) (sym old)
    (subst (λ l. Shows (outcome_of who (serving (Some r) q tmu words) m) before listed m l) last_is shown)
