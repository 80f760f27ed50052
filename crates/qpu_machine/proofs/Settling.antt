-- The step of a processor: its queues have room, and the code's step is the definition's.
use Rattle.std.proofs.Common.{◌≡◌, ◌≤◌, ◌<◌, ℕ, suc, ◌+◌, ◌==◌, ◌&&◌, ◌||◌, not, nat_le, Bool, true, false, if◌then◌else◌, IsTrue, List, [], ◌∷◌, ◌++◌, length, ◌^◌, Option, None, Some, IfSome, refl, sym, ◌∙◌, ap, subst, arith}
use Rattle.std.proofs.lemmas.Grind.{common_steps}
use Rattle.std.specs.{Prelude.option_map, Prelude.is_some, Int.from_le_bytes, Int.w64}
use Rattle.arrayvec.specs.ArrayVec.{ArrayVec}
use Rattle.field_words.specs.Words.{u32_at}
use Rattle.machine_plan.specs.{Memory.bytes_at, Plan.outcome_of, Turn.CarriesOver, Turn.if_tame, Glance.glance_result}
use Rattle.machine_plan.proofs.Worlds.{shows_mapped}
use Rattle.qpu_isa.specs.Terms.{writes_s, loads}
use Rattle.qpu_machine.specs.State.{Access, Ask, Asked, Ends, Fate, GoesOn, Leaves, Qpu, Request, Switches, Thread, Who}
use Rattle.qpu_machine.specs.Writes.{awake, past_uniform, written_at, after_add, after_multiply, after_writes, after_setup, after_load, went_on, after_work, after_rest, results_after, ask_made, ask_of}
use Rattle.qpu_machine.specs.Step.{ThreadTurn, turn_of, executed_with, turn_executed, thread_plan, is_held_by, is_held, thread_ready}
use Rattle.qpu_machine.specs.Qpu.{active_of, job_of_thread, resting_of, is_of, queue_count, ready_by, qpu_ready, left_by, kept_by, gives_way, woken_slot, queue_with, after_turn, with_active, left_slot, gives_way_by, asked_by, settled_by, went, after_stop, plan_by, qpu_plan, stopped_by, qpu_stopped}
use Rattle.qpu_machine.specs.{Operands.add_row, Operands.mul_row, Wild.takes_one, Wild.is_wild}
use Rattle.qpu_machine.specs.Bounds.{IsNear, finished0, finished1, IsFew, IsBounded, SlotSteps}
use Rattle.qpu_machine.proofs.Shown.{by_tests, plan_is}

-- what an instruction that isn't held up leaves: no more results than before, and what it asks has room
pub record Limits (t : Thread) (queued0 queued1 : ℕ) (turn : ThreadTurn) : Type 0 where
  pub fewer0 : length turn.thread.results0.items ≤ length t.results0.items
  pub fewer1 : length turn.thread.results1.items ≤ length t.results1.items
  pub asked0 : IfSome turn.leaves.asked (λ one. one.tmu ≡ 0 → queued0 + length t.results0.items < 8)
  pub asked1 : IfSome turn.leaves.asked (λ one. one.tmu ≡ 1 → queued1 + length t.results1.items < 8)

results_fewer : (taken : Bool) (results : List (Option (List ℕ))) → length (results_after taken results) ≤ length results
unfolding results_after
results_fewer false results = omega arith
results_fewer true results = grind (arith, common_steps)

free_of : (load send : Bool) (queued finished : ℕ) → ((load && finished == 0) || (send && nat_le 8 (queued + finished))) ≡ false → send ≡ true → queued + finished < 8
free_of load send queued finished free sends = grind (arith, common_steps, free, sends)

held_by_free : (word tmu queued finished : ℕ) → is_held_by word tmu queued finished ≡ false → writes_s word tmu ≡ true → queued + finished < 8
unfolding is_held_by
held_by_free word tmu queued finished free sends = free_of (loads word tmu) (writes_s word tmu) queued finished free sends

first_free : (a b : Bool) → (a || b) ≡ false → a ≡ false
first_free false b e = refl
first_free true b e = absurd cc

second_free : (a b : Bool) → (a || b) ≡ false → b ≡ false
second_free false b e = e
second_free true b e = absurd cc

asked_first : (one two : Bool) (a b : Ask) (n : ℕ) → (one ≡ true → n < 8) → IfSome (if one then Some (record { tmu = 0; ask = a }) else (if two then Some (record { tmu = 1; ask = b }) else None)) (λ (x : Asked). x.tmu ≡ 0 → n < 8)
asked_first true two a b n h = λ e. h refl
asked_first false true a b n h = λ e. absurd (omega (arith, e))
asked_first false false a b n h = tt

asked_second : (one two : Bool) (a b : Ask) (n : ℕ) → (two ≡ true → n < 8) → IfSome (if one then Some (record { tmu = 0; ask = a }) else (if two then Some (record { tmu = 1; ask = b }) else None)) (λ (x : Asked). x.tmu ≡ 1 → n < 8)
asked_second true two a b n h = λ e. absurd (omega (arith, e))
asked_second false true a b n h = λ e. h refl
asked_second false false a b n h = tt

executed_limits : (word uniform : ℕ) (words : List ℕ) (t : Thread) (queued0 queued1 : ℕ) → is_held t word queued0 queued1 ≡ false → Limits t queued0 queued1 (turn_executed word uniform words t)
unfolding turn_executed executed_with after_rest after_work went_on after_load after_setup after_writes after_multiply after_add written_at ask_made is_held
executed_limits word uniform words t queued0 queued1 free =
    let sum = add_row t word uniform words in
    let product = mul_row t word uniform words in
    record {
      fewer0 = results_fewer (loads word 0) t.results0.items;
      fewer1 = results_fewer (loads word 1) t.results1.items;
      asked0 = asked_first (writes_s word 0) (writes_s word 1) (ask_of word 0 uniform sum product t.setups0.items) (ask_of word 1 uniform sum product t.setups1.items) (queued0 + length t.results0.items)
          (λ sends. held_by_free word 0 queued0 (length t.results0.items) (first_free _ _ free) sends);
      asked1 = asked_second (writes_s word 0) (writes_s word 1) (ask_of word 0 uniform sum product t.setups0.items) (ask_of word 1 uniform sum product t.setups1.items) (queued1 + length t.results1.items)
          (λ sends. held_by_free word 1 queued1 (length t.results1.items) (second_free _ _ free) sends);
    }

-- a thread that wakes and takes a uniform has the same results
woken_limits : (word uniform : ℕ) (words : List ℕ) (t : Thread) (queued0 queued1 : ℕ) → is_held t word queued0 queued1 ≡ false → Limits t queued0 queued1 (turn_executed word uniform words (awake words t))
unfolding awake is_held
woken_limits word uniform words t queued0 queued1 free = let h = executed_limits word uniform words (awake words t) queued0 queued1 free in record { fewer0 = h.fewer0; fewer1 = h.fewer1; asked0 = h.asked0; asked1 = h.asked1 }

past_limits : (word uniform : ℕ) (words : List ℕ) (t : Thread) (queued0 queued1 : ℕ) → is_held t word queued0 queued1 ≡ false → Limits t queued0 queued1 (turn_executed word uniform words (awake words (past_uniform t)))
unfolding past_uniform is_held
past_limits word uniform words t queued0 queued1 free = let h = woken_limits word uniform words (past_uniform t) queued0 queued1 free in record { fewer0 = h.fewer0; fewer1 = h.fewer1; asked0 = h.asked0; asked1 = h.asked1 }

tests_limits : (who : Who) (t : Thread) (word : ℕ) (words m : List ℕ) (queued0 queued1 : ℕ) (turn : ThreadTurn) (wild takes : Bool) → is_held t word queued0 queued1 ≡ false → Some turn ≡ (outcome_of who (by_tests wild takes t word words) m).result → Limits t queued0 queued1 turn
tests_limits who t word words m queued0 queued1 turn true takes free is = absurd cc
tests_limits who t word words m queued0 queued1 turn false true free is =
    let uniform : ℕ = u32_at (bytes_at m t.uniforms 4) 0 in
    let same : turn ≡ turn_executed word uniform words (awake words (past_uniform t)) = cc in
    subst (Limits t queued0 queued1) (sym same) (past_limits word uniform words t queued0 queued1 free)
tests_limits who t word words m queued0 queued1 turn false false free is =
    let same : turn ≡ turn_executed word 0 words (awake words t) = cc in
    subst (Limits t queued0 queued1) (sym same) (woken_limits word 0 words t queued0 queued1 free)

not_true : (b : Bool) → IsTrue (not b) → b ≡ false
not_true false e = refl
not_true true e = absurd cc

thread_limits : (who : Who) (t : Thread) (words m : List ℕ) (queued0 queued1 : ℕ) (turn : ThreadTurn) → IsTrue (glance_result (thread_ready t queued0 queued1) m) → Some turn ≡ (outcome_of who (thread_plan t words) m).result → Limits t queued0 queued1 turn
unfolding thread_ready thread_plan
thread_limits who t words m queued0 queued1 turn ready is =
    let word = from_le_bytes w64 (bytes_at m t.place 8) in
    let free : is_held t word queued0 queued1 ≡ false = not_true (is_held t word queued0 queued1) ready in
    let plan : Some turn ≡ (outcome_of who (by_tests (is_wild t word) (takes_one t word) t word words) m).result = is ∙ ap (λ p. (outcome_of who p m).result) (sym (plan_is t word words (is_wild t word) (takes_one t word) refl refl)) in
    tests_limits who t word words m queued0 queued1 turn (is_wild t word) (takes_one t word) free plan

-- queues with one more request
abbrev pub one_if : Bool → ℕ
one_if b = if b then 1 else 0

pub queued_first : (second : Bool) (r : Request) (requests : List Request) → queue_count second (r ∷ requests) ≡ one_if (is_of second r) + queue_count second requests
queued_first second r requests = grind (arith, common_steps)

queued_last : (second : Bool) (requests : List Request) (r : Request) → queue_count second (requests ++ r ∷ []) ≡ queue_count second requests + one_if (is_of second r)
queued_last second [] r = grind (arith, common_steps)
queued_last second (x ∷ requests) r = let h : queue_count second (requests ++ r ∷ []) ≡ queue_count second requests + one_if (is_of second r) = queued_last second requests r in grind (arith, common_steps, h)

pub own_request : (second : Bool) (job : ℕ) (ask : Ask) → is_of second (record { second = second; job = job; ask = ask }) ≡ true
own_request false job ask = refl
own_request true job ask = refl

other_request : (second : Bool) (job : ℕ) (ask : Ask) → is_of (not second) (record { second = second; job = job; ask = ask }) ≡ false
other_request false job ask = refl
other_request true job ask = refl

own_more : (second : Bool) (requests : List Request) (r : Request) (n : ℕ) → is_of second r ≡ true → queue_count second requests + n < 8 → queue_count second (requests ++ r ∷ []) + n ≤ 8
own_more second requests r n own free = let h = queued_last second requests r in let one : one_if (is_of second r) ≡ 1 = ap one_if own in omega (arith, h, one, free)

other_same : (second : Bool) (requests : List Request) (r : Request) → is_of second r ≡ false → queue_count second (requests ++ r ∷ []) ≡ queue_count second requests
other_same second requests r other = let h = queued_last second requests r in let none : one_if (is_of second r) ≡ 0 = ap one_if other in omega (arith, h, none)

put_own : (mine : Bool) (second : Bool) (job : ℕ) (one : Asked) (requests : List Request) (n : ℕ) → (mine ≡ true → queue_count second requests + n < 8) → queue_count second requests + n ≤ 8
    → queue_count second (if mine then requests ++ (record { second = second; job = job; ask = one.ask }) ∷ [] else requests) + n ≤ 8
put_own true second job one requests n free few = own_more second requests (record { second = second; job = job; ask = one.ask }) n (own_request second job one.ask) (free refl)
put_own false second job one requests n free few = few

pub queue_own : (tmu : ℕ) (second : Bool) (job : ℕ) (asked : Option Asked) (requests : List Request) (n : ℕ) → IfSome asked (λ one. one.tmu ≡ tmu → queue_count second requests + n < 8) → queue_count second requests + n ≤ 8 → queue_count second (queue_with tmu second job asked requests) + n ≤ 8
queue_own tmu second job None requests n free few = few
queue_own tmu second job (Some one) requests n free few = put_own (one.tmu == tmu) second job one requests n (λ e. free (grind (arith, common_steps, e))) few

put_other : (mine : Bool) (second : Bool) (job : ℕ) (one : Asked) (requests : List Request)
    → queue_count (not second) (if mine then requests ++ (record { second = second; job = job; ask = one.ask }) ∷ [] else requests) ≡ queue_count (not second) requests
put_other true second job one requests = other_same (not second) requests (record { second = second; job = job; ask = one.ask }) (other_request second job one.ask)
put_other false second job one requests = refl

pub queue_other : (tmu : ℕ) (second : Bool) (job : ℕ) (asked : Option Asked) (requests : List Request) → queue_count (not second) (queue_with tmu second job asked requests) ≡ queue_count (not second) requests
queue_other tmu second job None requests = refl
queue_other tmu second job (Some one) requests = put_other (one.tmu == tmu) second job one requests

-- a slot that wakes
woken_near : (over : Bool) (slot : Option Thread) → IsNear slot → IsNear (woken_slot over slot)
woken_near false slot near = near
woken_near true None near = tt
woken_near true (Some t) near = near

woken0 : (over : Bool) (slot : Option Thread) → finished0 (woken_slot over slot) ≡ finished0 slot
woken0 false slot = refl
woken0 true None = refl
woken0 true (Some t) = refl

woken1 : (over : Bool) (slot : Option Thread) → finished1 (woken_slot over slot) ≡ finished1 slot
woken1 false slot = refl
woken1 true None = refl
woken1 true (Some t) = refl

other_few : (second over : Bool) (job : ℕ) (asked : Option Asked) (slot : Option Thread) (queue0 queue1 : List Request) → IsFew (not second) slot queue0 queue1
    → IsFew (not second) (woken_slot over slot) (queue_with 0 second job asked queue0) (queue_with 1 second job asked queue1)
other_few second over job asked slot queue0 queue1 h = record {
  tmu0 = omega (arith, h.tmu0, queue_other 0 second job asked queue0, woken0 over slot);
  tmu1 = omega (arith, h.tmu1, queue_other 1 second job asked queue1, woken1 over slot);
}

-- what the thread that stepped has in its queues
abbrev pub OwnFew : Bool → ℕ → Option Thread → Option Asked → List Request → List Request → Type 0
OwnFew second job own asked queue0 queue1 = IsFew second own (queue_with 0 second job asked queue0) (queue_with 1 second job asked queue1)

settled_bounded : (q : Qpu) (second : Bool) (slot : Option Thread) (job : ℕ) (own : Option Thread) (over : Bool) (asked : Option Asked) → IsBounded q → IsNear own → OwnFew second job own asked q.queue0.items q.queue1.items
    → IsBounded (after_turn (with_active (record q { second = second }) slot) job own over asked)
unfolding after_turn
settled_bounded q true slot job own over asked h near few = record {
  first_near = woken_near over q.first h.first_near;
  other_near = near;
  first_few = other_few true over job asked q.first q.queue0.items q.queue1.items h.first_few;
  other_few = few;
}
settled_bounded q false slot job own over asked h near few = record {
  first_near = near;
  other_near = woken_near over q.other h.other_near;
  first_few = few;
  other_few = other_few false over job asked q.other q.queue0.items q.queue1.items h.other_few;
}

one_more : (second : Bool) (a b n : ℕ) → n ≡ a + b → suc n ≡ one_if (not second) + a + (one_if second + b)
one_more true a b n h = omega (arith, h)
one_more false a b n h = omega (arith, h)

-- all requests are of one of the two threads
pub queued_all : (requests : List Request) → length requests ≡ queue_count false requests + queue_count true requests
queued_all [] = refl
queued_all (r ∷ requests) =
    let h = one_more r.second (queue_count false requests) (queue_count true requests) (length requests) (queued_all requests) in
    omega (arith, h, queued_first false r requests, queued_first true r requests)

pub active_few : (q : Qpu) (second : Bool) → IsBounded q → IsFew second (active_of (record q { second = second })) q.queue0.items q.queue1.items
active_few q true h = h.other_few
active_few q false h = h.first_few

rest_few : (q : Qpu) (second : Bool) → IsBounded q → IsFew (not second) (resting_of (record q { second = second })) q.queue0.items q.queue1.items
rest_few q true h = h.first_few
rest_few q false h = h.other_few

pub both_all : (second : Bool) (requests : List Request) → length requests ≡ queue_count second requests + queue_count (not second) requests
both_all true requests = let h = queued_all requests in omega (arith, h)
both_all false requests = queued_all requests

-- a step of the thread t
pub record Stepped (who : Who) (words m : List ℕ) (before listed : ArrayVec Access) (q after : Qpu) (job : ℕ) (left : Option Leaves) : Type 0 where
  pub t : Thread
  pub next : Thread
  pub active : active_of q ≡ Some t
  pub ready : IsTrue (glance_result (thread_ready t (queue_count q.second q.queue0.items) (queue_count q.second q.queue1.items)) m)
  pub job_is : job ≡ t.job
  pub after_is : after ≡ with_active q (Some next)
  pub shows : CarriesOver who (thread_plan t words) m before listed (option_map (turn_of next) left)
  pub near : IfSome left (λ leaves. next.place ≤ 2 ^ 34)

by_slot : (who : Who) (words m : List ℕ) (before listed : ArrayVec Access) (q after : Qpu) (job : ℕ) (left : Option Leaves) (slot : Option Thread) → active_of q ≡ slot → IsTrue (glance_result (ready_by slot q) m)
    → job ≡ job_of_thread slot → after ≡ with_active q (active_of after) → IfSome slot (SlotSteps who words m before listed (active_of after) left) → Stepped who words m before listed q after job left
by_slot who words m before listed q after job left None active ready job_is kept steps = absurd cc
by_slot who words m before listed q after job left (Some t) active ready job_is kept steps = record {
  t = t;
  next = steps.next;
  active = active;
  ready = ready;
  job_is = job_is;
  after_is = kept ∙ ap (with_active q) steps.is;
  shows = steps.shows;
  near = steps.near;
}

pub stepped : (who : Who) (words m : List ℕ) (before listed : ArrayVec Access) (q after : Qpu) (job : ℕ) (left : Option Leaves) → IsTrue (glance_result (qpu_ready q) m)
    → job ≡ job_of_thread (active_of q) → after ≡ with_active q (active_of after) → IfSome (active_of q) (SlotSteps who words m before listed (active_of after) left) → Stepped who words m before listed q after job left
stepped who words m before listed q after job left ready job_is kept steps = by_slot who words m before listed q after job left (active_of q) refl ready job_is kept steps

left_limits : (who : Who) (words m : List ℕ) (before listed : ArrayVec Access) (q after : Qpu) (job : ℕ) (left : Option Leaves) (h : Stepped who words m before listed q after job left)
    → IfSome left (λ leaves. Limits h.t (queue_count q.second q.queue0.items) (queue_count q.second q.queue1.items) (turn_of h.next leaves))
left_limits who words m before listed q after job None h = tt
left_limits who words m before listed q after job (Some leaves) h =
    thread_limits who h.t words m (queue_count q.second q.queue0.items) (queue_count q.second q.queue1.items) (turn_of h.next leaves) h.ready h.shows.result_is

few_of : (q : Qpu) (t : Thread) → IsBounded q → active_of q ≡ Some t → IsFew q.second (Some t) q.queue0.items q.queue1.items
few_of q t h e = subst (λ slot. IsFew q.second slot q.queue0.items q.queue1.items) e (active_few q q.second h)

-- each queue has room for what is asked
room_in : (second : Bool) (requests : List Request) (other own : ℕ) → queue_count (not second) requests + other ≤ 8 → queue_count second requests + own < 8 → length requests < 16
room_in second requests other own few free = omega (arith, both_all second requests, few, free)

weaker_asked : {P Q : Asked → Type 0} (asked : Option Asked) → ((one : Asked) → P one → Q one) → IfSome asked P → IfSome asked Q
weaker_asked None f h = tt
weaker_asked (Some one) f h = f one h

asks_room : (tmu : ℕ) (second : Bool) (requests : List Request) (other own : ℕ) (asked : Option Asked) → queue_count (not second) requests + other ≤ 8 → IfSome asked (λ one. one.tmu ≡ tmu → queue_count second requests + own < 8)
    → IfSome asked (λ one. one.tmu ≡ tmu → length requests < 16)
asks_room tmu second requests other own asked few free = weaker_asked asked (λ one h is. room_in second requests other own few (h is)) free

-- both queues of a processor have room for what was asked
abbrev pub HasRoom : Option Leaves → Qpu → Type 0
HasRoom left q = IfSome (asked_by left) (λ one. one.tmu ≡ 0 → length q.queue0.items < 16) × IfSome (asked_by left) (λ one. one.tmu ≡ 1 → length q.queue1.items < 16)

left_room : (who : Who) (words m : List ℕ) (before listed : ArrayVec Access) (q after : Qpu) (job : ℕ) (left : Option Leaves) → IsBounded q → (h : Stepped who words m before listed q after job left)
    → IfSome left (λ leaves. Limits h.t (queue_count q.second q.queue0.items) (queue_count q.second q.queue1.items) (turn_of h.next leaves)) → HasRoom left q
left_room who words m before listed q after job None bounded h limits = (tt, tt)
left_room who words m before listed q after job (Some leaves) bounded h limits =
    let few = rest_few q q.second bounded in (
      asks_room 0 q.second q.queue0.items (finished0 (resting_of q)) (length h.t.results0.items) leaves.asked few.tmu0 limits.asked0,
      asks_room 1 q.second q.queue1.items (finished1 (resting_of q)) (length h.t.results1.items) leaves.asked few.tmu1 limits.asked1,
    )

pub settle_room : (who : Who) (words m : List ℕ) (before listed : ArrayVec Access) (q after : Qpu) (job : ℕ) (left : Option Leaves) → IsBounded q → Stepped who words m before listed q after job left → HasRoom left after
settle_room who words m before listed q after job left bounded h = subst (HasRoom left) (sym h.after_is) (left_room who words m before listed q after job left bounded h (left_limits who words m before listed q after job left h))

-- the processor after the step is bounded
kept_few : (second : Bool) (job : ℕ) (t next : Thread) (queue0 queue1 : List Request) (leaves : Leaves) → IsFew second (Some t) queue0 queue1 → Limits t (queue_count second queue0) (queue_count second queue1) (turn_of next leaves)
    → OwnFew second job (Some next) leaves.asked queue0 queue1
kept_few second job t next queue0 queue1 leaves few limits =
    let a = queue_own 0 second job leaves.asked queue0 (length t.results0.items) limits.asked0 few.tmu0 in
    let b = queue_own 1 second job leaves.asked queue1 (length t.results1.items) limits.asked1 few.tmu1 in
    record { tmu0 = omega (arith, a, limits.fewer0); tmu1 = omega (arith, b, limits.fewer1) }

none_few : (second : Bool) (slot : Option Thread) (queue0 queue1 : List Request) → IsFew second slot queue0 queue1 → IsFew second None queue0 queue1
none_few second slot queue0 queue1 few = record { tmu0 = omega (arith, few.tmu0); tmu1 = omega (arith, few.tmu1) }

fate_near : (fate : Fate) (next : Thread) → next.place ≤ 2 ^ 34 → IsNear (kept_by fate (Some next))
fate_near GoesOn next near = omega (arith, near)
fate_near Switches next near = omega (arith, near)
fate_near Ends next near = tt

fate_few : (fate : Fate) (second : Bool) (next : Thread) (queue0 queue1 : List Request) → IsFew second (Some next) queue0 queue1 → IsFew second (kept_by fate (Some next)) queue0 queue1
fate_few GoesOn second next queue0 queue1 few = few
fate_few Switches second next queue0 queue1 few = few
fate_few Ends second next queue0 queue1 few = none_few second (Some next) queue0 queue1 few

active_is : (q : Qpu) (second : Bool) (slot : Option Thread) → active_of (with_active (record q { second = second }) slot) ≡ slot
active_is q true slot = refl
active_is q false slot = refl

-- where the slot of the active thread holds this, the step comes to it
settled_with : (q : Qpu) (slot : Option Thread) (job : ℕ) (left : Option Leaves) → settled_by (with_active q slot) job left ≡ after_turn (with_active q slot) job (left_slot left slot) (gives_way_by left) (asked_by left)
unfolding settled_by
settled_with q slot job left = ap (λ s. after_turn (with_active q slot) job (left_slot left s) (gives_way_by left) (asked_by left)) (active_is q q.second slot)

left_bounded : (who : Who) (words m : List ℕ) (before listed : ArrayVec Access) (q after : Qpu) (job : ℕ) (left : Option Leaves) → IsBounded q → (h : Stepped who words m before listed q after job left)
    → IfSome left (λ leaves. Limits h.t (queue_count q.second q.queue0.items) (queue_count q.second q.queue1.items) (turn_of h.next leaves))
    → IsBounded (after_turn (with_active q (Some h.next)) job (left_slot left (Some h.next)) (gives_way_by left) (asked_by left))
left_bounded who words m before listed q after job None bounded h limits =
    settled_bounded q q.second (Some h.next) job None true None bounded tt (none_few q.second (Some h.t) q.queue0.items q.queue1.items (few_of q h.t bounded h.active))
left_bounded who words m before listed q after job (Some leaves) bounded h limits =
    settled_bounded q q.second (Some h.next) job (kept_by leaves.fate (Some h.next)) (gives_way leaves.fate) leaves.asked bounded (fate_near leaves.fate h.next h.near)
    (fate_few leaves.fate q.second h.next (queue_with 0 q.second job leaves.asked q.queue0.items) (queue_with 1 q.second job leaves.asked q.queue1.items) (kept_few q.second job h.t h.next q.queue0.items q.queue1.items leaves (few_of q h.t bounded h.active) limits))

pub settle_bounded : (who : Who) (words m : List ℕ) (before listed : ArrayVec Access) (q after next : Qpu) (job : ℕ) (left : Option Leaves) → IsBounded q → Stepped who words m before listed q after job left → next ≡ settled_by after job left → IsBounded next
settle_bounded who words m before listed q after next job left bounded h next_is =
    subst IsBounded (sym (next_is ∙ (ap (λ a. settled_by a job left) h.after_is ∙ settled_with q (Some h.next) job left)))
    (left_bounded who words m before listed q after job left bounded h (left_limits who words m before listed q after job left h))

-- what stands in the slot of the thread that stepped is the step's own
slot_gone : (q : Qpu) (second : Bool) (slot : Option Thread) (job : ℕ) (own : Option Thread) (over : Bool) (asked : Option Asked)
    → after_turn (with_active (record q { second = second }) slot) job own over asked ≡ after_turn (record q { second = second }) job own over asked
unfolding after_turn
slot_gone q true slot job own over asked = refl
slot_gone q false slot job own over asked = refl

kept_left : (fate : Fate) (next : Thread) → kept_by fate (Some next) ≡ left_by fate next
kept_left GoesOn next = refl
kept_left Switches next = refl
kept_left Ends next = refl

went_is : (q : Qpu) (t next : Thread) (job : ℕ) (leaves : Leaves) → job ≡ t.job
    → after_turn (with_active q (Some next)) job (kept_by leaves.fate (Some next)) (gives_way leaves.fate) leaves.asked ≡ went q t (turn_of next leaves)
went_is q t next job leaves job_is =
    slot_gone q q.second (Some next) job (kept_by leaves.fate (Some next)) (gives_way leaves.fate) leaves.asked
    ∙ (ap (λ own. after_turn q job own (gives_way leaves.fate) leaves.asked) (kept_left leaves.fate next)
    ∙ ap (λ j. after_turn q j (left_by leaves.fate next) (gives_way leaves.fate) leaves.asked) job_is)

settle_is : (who : Who) (words m : List ℕ) (before listed : ArrayVec Access) (q after next : Qpu) (job : ℕ) (left : Option Leaves) → (h : Stepped who words m before listed q after job left) → next ≡ settled_by after job left
    → next ≡ after_turn (with_active q (Some h.next)) job (left_slot left (Some h.next)) (gives_way_by left) (asked_by left)
settle_is who words m before listed q after next job left h next_is = next_is ∙ (ap (λ a. settled_by a job left) h.after_is ∙ settled_with q (Some h.next) job left)

result_is : (q last : Qpu) (t next : Thread) (job : ℕ) (left : Option Leaves) → job ≡ t.job → last ≡ after_turn (with_active q (Some next)) job (left_slot left (Some next)) (gives_way_by left) (asked_by left)
    → option_map (went q t) (option_map (turn_of next) left) ≡ if_tame (is_some left) last
result_is q last t next job None job_is is = refl
result_is q last t next job (Some leaves) job_is is = ap Some (sym (is ∙ went_is q t next job leaves job_is))

pub settle_shows : (who : Who) (words m : List ℕ) (before listed : ArrayVec Access) (q after next : Qpu) (job : ℕ) (left : Option Leaves) → Stepped who words m before listed q after job left → next ≡ settled_by after job left
    → CarriesOver who (qpu_plan q words) m before listed (if_tame (is_some left) next)
settle_shows who words m before listed q after next job left h next_is =
    let shown : CarriesOver who (plan_by (Some h.t) q words) m before listed (option_map (went q h.t) (option_map (turn_of h.next) left)) =
    shows_mapped (went q h.t) who (thread_plan h.t words) m before.items listed.items m (option_map (turn_of h.next) left) h.shows in
    let same = result_is q next h.t h.next job left h.job_is (settle_is who words m before listed q after next job left h next_is) in
    subst (λ slot. CarriesOver who (plan_by slot q words) m before listed (if_tame (is_some left) next)) (sym h.active)
    (subst (λ r. CarriesOver who (plan_by (Some h.t) q words) m before listed r) same shown)

stopped_is : (q : Qpu) (t next : Thread) (job : ℕ) → job ≡ t.job → after_turn (with_active q (Some next)) job None true None ≡ after_stop q t
stopped_is q t next job job_is = slot_gone q q.second (Some next) job None true None ∙ ap (λ j. after_turn q j None true None) job_is

wild_left : (q next : Qpu) (t thread : Thread) (job : ℕ) (left : Option Leaves) → job ≡ t.job → next ≡ after_turn (with_active q (Some thread)) job (left_slot left (Some thread)) (gives_way_by left) (asked_by left) → is_some left ≡ false → next ≡ after_stop q t
wild_left q next t thread job None job_is is none = is ∙ stopped_is q t thread job job_is
wild_left q next t thread job (Some leaves) job_is is none = absurd cc

pub settle_wild : (who : Who) (words m : List ℕ) (before listed : ArrayVec Access) (q after next : Qpu) (job : ℕ) (left : Option Leaves) → Stepped who words m before listed q after job left → next ≡ settled_by after job left → is_some left ≡ false → next ≡ qpu_stopped q
settle_wild who words m before listed q after next job left h next_is none =
    subst (λ slot. next ≡ stopped_by slot q) (sym h.active) (wild_left q next h.t h.next job left h.job_is (settle_is who words m before listed q after next job left h next_is) none)
