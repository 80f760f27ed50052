-- What a shader that is served says of a checked instruction, and of the requests that are outstanding behind it.
use Rattle.std.proofs.Common.{◌≡◌, ◌≤◌, ◌<◌, inl, inr, ℕ, zero, suc, ◌+◌, ◌-◌, ◌==◌, Bool, true, false, not, ◌&&◌, ◌||◌, List, length, if◌then◌else◌, nat_lt, refl, sym, ap, subst, arith, ◌∙◌}
use Rattle.std.proofs.lemmas.{Bool.eq-eqb, Bool.false_from_ne_true, Bool.or_parts, Bool.true≢false, Grind.common_steps, Bool.Decides.nat_tests}
use Rattle.std.specs.Prelude.{nat_le}
use Rattle.qpu_isa.specs.{Word.waddr_add_of, Word.waddr_mul_of}
use Rattle.qpu_isa.specs.Terms.{is_branch, writes_s, s_address, names_address, add_names, mul_names, add_is_tmu, mul_is_tmu, has_two_tmu_writes, loads}
use Rattle.shader_flow.specs.{Flow.word, Flow.end_of, Flow.checked_of, Flow.is_target}
use Rattle.shader_flow.proofs.Bounded.{some_below_not}
use Rattle.qpu_machine.specs.{declared.state.Thread.Thread}
use Rattle.qpu_law.specs.Home.{Home, HasNoFault, Jumps, GoesTo}
use Rattle.uniform_stream.specs.Rules.{s20}
use Rattle.qpu_law.proofs.Going.{behind, fine_at, in_checked, makes_on, target_inside}
use Rattle.promises.specs.{Steps.one_if, Finished.may_wait}
use Rattle.strict_rules.specs.Queue.{queue_of, requests_of, most_requests}
use Rattle.strict_rules.specs.Rules.{meets_requests, loads_none, lacks_slot, lacks_room, leaves_requests, e3, waits_at}
use Rattle.strict_rules.proofs.{Requests.count_inside, Rooms.never_waits, Rooms.room_for}

pub record ServesAt (code : List ℕ) (i : ℕ) : Type 0 where
  pub meets : meets_requests code i ≡ false
  pub none0 : loads_none code 0 i ≡ false
  pub none1 : loads_none code 1 i ≡ false
  pub slot : lacks_slot code i ≡ false
  pub room : lacks_room code i ≡ false
  pub leaves : leaves_requests code i ≡ false

pub serves_by : (code : List ℕ) (i : ℕ) → e3 code i ≡ false → ServesAt code i
unfolding e3
serves_by code i off =
    let both = or_parts (meets_requests code i || (loads_none code 0 i || loads_none code 1 i)) (lacks_slot code i || (lacks_room code i || leaves_requests code i)) off in
    let early = or_parts (meets_requests code i) (loads_none code 0 i || loads_none code 1 i) both.0 in
    let none = or_parts (loads_none code 0 i) (loads_none code 1 i) early.1 in
    let late = or_parts (lacks_slot code i) (lacks_room code i || leaves_requests code i) both.1 in
    let rest = or_parts (lacks_room code i) (leaves_requests code i) late.1 in
    record { meets = early.0; none0 = none.0; none1 = none.1; slot = late.0; room = rest.0; leaves = rest.1 }

pub no_e3 : (code : List ℕ) (i : ℕ) → may_wait code ≡ false → i < checked_of code → e3 code i ≡ false
unfolding may_wait
no_e3 code i served inside = never_waits code i (some_below_not (checked_of code) i (λ k. waits_at code k) served inside)

pub serves_at : (code : List ℕ) (i : ℕ) → may_wait code ≡ false → i < checked_of code → ServesAt code i
serves_at code i served inside = serves_by code i (no_e3 code i served inside)

-- An instruction takes a request by a load, and sends one.
taken_by : (load : Bool) (n : ℕ) → (if load then n - 1 else n) ≡ n - one_if load
taken_by true n = refl
taken_by false n = omega arith

pub next_queue : (code : List ℕ) (tmu i : ℕ) → i < checked_of code
    → length (queue_of code tmu (i + 1)) ≡ (length (queue_of code tmu i) - one_if (loads (word code i) tmu)) + one_if (writes_s (word code i) tmu)
next_queue code tmu i inside =
    count_inside code tmu i inside
    ∙ ap (λ n. n + one_if (writes_s (word code i) tmu)) (taken_by (loads (word code i) tmu) (length (queue_of code tmu i)))

-- The count goes on, where the instruction isn't held up by the results that there are.
pub count_on : (code : List ℕ) (tmu i queued finished after more : ℕ) → i < checked_of code → queued + finished ≡ length (queue_of code tmu i) → one_if (loads (word code i) tmu) ≤ finished
    → after ≡ finished - one_if (loads (word code i) tmu) → more ≡ one_if (writes_s (word code i) tmu) → queued + more + after ≡ length (queue_of code tmu (i + 1))
count_on code tmu i queued finished after more inside count has taken sent =
    let next = next_queue code tmu i inside in
    omega (arith, count, has, taken, sent, next)

-- An instruction asks at most one TMU.
names_two : (add mul : ℕ) → (add == 56 || mul == 56) ≡ true → (add == 60 || mul == 60) ≡ true → (nat_le 56 add && nat_le 56 mul) ≡ true
names_two add mul first second = grind (arith, common_steps, nat_tests, first, second)

one_s_by : (branch : Bool) (add mul : ℕ) → ((not branch && nat_le 56 add) && (not branch && nat_le 56 mul)) ≡ false → ((not branch && add == 56) || (not branch && mul == 56)) ≡ true
    → ((not branch && add == 60) || (not branch && mul == 60)) ≡ false
one_s_by true add mul one on = absurd cc
one_s_by false add mul one on = false_from_ne_true (add == 60 || mul == 60) (λ other. true≢false (sym (names_two add mul on other) ∙ one))

pub one_s : (w : ℕ) → has_two_tmu_writes w ≡ false → writes_s w 0 ≡ true → writes_s w 1 ≡ false
unfolding has_two_tmu_writes add_is_tmu mul_is_tmu writes_s names_address add_names mul_names s_address
one_s w one on = one_s_by (is_branch w) (waddr_add_of w) (waddr_mul_of w) one on

-- A request has room, so there are never more.
fewer : (a b c d most : ℕ) (load0 load1 send0 send1 : Bool) → c ≡ (a - one_if load0) + one_if send0 → d ≡ (b - one_if load1) + one_if send1
    → ((send0 || send1) ≡ true → a + b < most) → (send0 ≡ true → send1 ≡ false) → a + b ≤ most → c + d ≤ most
fewer a b c d most load0 load1 true true first second room one few = absurd (true≢false (one refl))
fewer a b c d most load0 load1 true false first second room one few = let below : a + b < most = room refl in omega (arith, first, second, below)
fewer a b c d most load0 load1 false true first second room one few = let below : a + b < most = room refl in omega (arith, first, second, below)
fewer a b c d most load0 load1 false false first second room one few = omega (arith, first, second, few)

one_sent : (code : List ℕ) → HasNoFault code → (i : ℕ) → i < checked_of code → writes_s (word code i) 0 ≡ true → writes_s (word code i) 1 ≡ false
unfolding s20
one_sent code sound i inside sent = one_s (word code i) (fine_at code sound i inside).no20 sent

pub few_requests : (code : List ℕ) → HasNoFault code → ((i : ℕ) → i < checked_of code → lacks_room code i ≡ false) → (i : ℕ) → i ≤ checked_of code → requests_of code i ≤ most_requests code
unfolding requests_of queue_of
few_requests code sound rooms zero inside = omega arith
few_requests code sound rooms (suc i) inside =
    let here : i < checked_of code = omega (arith, inside) in
    let e : i + 1 ≡ suc i = omega arith in
    let less : requests_of code (i + 1) ≤ most_requests code =
    fewer (length (queue_of code 0 i)) (length (queue_of code 1 i)) (length (queue_of code 0 (i + 1))) (length (queue_of code 1 (i + 1))) (most_requests code)
    (loads (word code i) 0) (loads (word code i) 1) (writes_s (word code i) 0) (writes_s (word code i) 1)
    (next_queue code 0 i here) (next_queue code 1 i here) (room_for code i (rooms i here)) (one_sent code sound i here) (few_requests code sound rooms i (omega (arith, here))) in
    subst (λ n. requests_of code n ≤ most_requests code) e less

-- At a target nothing is outstanding.
pub zero_by : (n : ℕ) → nat_lt 0 n ≡ false → n ≡ 0
zero_by n none = grind (arith, none)

pub record HasNone (code : List ℕ) (i : ℕ) : Type 0 where
  pub queue0 : length (queue_of code 0 i) ≡ 0
  pub queue1 : length (queue_of code 1 i) ≡ 0

pub none_at : (code : List ℕ) (i : ℕ) → meets_requests code i ≡ false → is_target code i ≡ true → HasNone code i
unfolding meets_requests requests_of
none_at code i off target =
    let none = zero_by (length (queue_of code 0 i) + length (queue_of code 1 i))
    (behind (is_target code i) (nat_lt 0 (length (queue_of code 0 i) + length (queue_of code 1 i))) target off) in
    record { queue0 = omega (arith, none); queue1 = omega (arith, none) }

-- A branch leads from a target, behind its slots, to another one.
pub jump_from : (code : List ℕ) (n to : ℕ) → HasNoFault code → n < checked_of code → Jumps code n to → is_target code (n + 1) ≡ true
jump_from code n to sound inside jump =
    let from = jump.from in
    let e : n - 3 + 4 ≡ n + 1 = omega (arith, from) in
    let b_in : n - 3 < checked_of code = omega (arith, inside) in
    subst (λ i. is_target code i ≡ true) e (makes_on code sound (n - 3) b_in jump.branch)

pub target_checked : (code : List ℕ) (i : ℕ) → HasNoFault code → is_target code i ≡ true → i < checked_of code
target_checked code i sound target = let before = target_inside code sound i target in in_checked code i sound (omega (arith, before))

target_none : (code : List ℕ) (i : ℕ) → HasNoFault code → may_wait code ≡ false → is_target code i ≡ true → HasNone code i
target_none code i sound served target = none_at code i (serves_at code i served (target_checked code i sound target)).meets target

-- So wherever the thread goes, as many are outstanding there.
pub goes_same : (h : Home) (n : ℕ) (t next : Thread) → HasNoFault h.code → may_wait h.code ≡ false → n < checked_of h.code → (goes : GoesTo h n t next)
    → (length (queue_of h.code 0 (n + 1)) ≡ length (queue_of h.code 0 goes.to)) × (length (queue_of h.code 1 (n + 1)) ≡ length (queue_of h.code 1 goes.to))
goes_same h n t next sound served inside goes =
    elim goes.way [
      | inl is ↦ (ap (λ i. length (queue_of h.code 0 i)) (sym is), ap (λ i. length (queue_of h.code 1 i)) (sym is))
      | inr lands ↦
          let from = target_none h.code (n + 1) sound served (jump_from h.code n goes.to sound inside lands.jump) in
          let there = target_none h.code goes.to sound served lands.jump.target in
          (from.queue0 ∙ sym there.queue0, from.queue1 ∙ sym there.queue1)
    ]

-- Behind the end nothing is.
pub ends_none : (code : List ℕ) (n : ℕ) → leaves_requests code (end_of code) ≡ false → n ≡ end_of code + 2 → HasNone code (n + 1)
unfolding leaves_requests requests_of
ends_none code n off last =
    let e : n + 1 ≡ end_of code + 3 = omega (arith, last) in
    let none = zero_by (length (queue_of code 0 (end_of code + 3)) + length (queue_of code 1 (end_of code + 3)))
    (behind (end_of code == end_of code) (nat_lt 0 (length (queue_of code 0 (end_of code + 3)) + length (queue_of code 1 (end_of code + 3)))) (eq-eqb (end_of code) (end_of code) refl) off) in
    let first : length (queue_of code 0 (end_of code + 3)) ≡ 0 = omega (arith, none) in
    let second : length (queue_of code 1 (end_of code + 3)) ≡ 0 = omega (arith, none) in
    record { queue0 = ap (λ i. length (queue_of code 0 i)) e ∙ first; queue1 = ap (λ i. length (queue_of code 1 i)) e ∙ second }
