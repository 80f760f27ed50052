-- What is known of a processor: after a step of its thread, after one of a texture unit, and where a program starts in it.
use Rattle.std.proofs.Common.{◌≡◌, ◌≢◌, ℕ, ◌+◌, ◌==◌, ◌&&◌, not, Bool, true, false, if◌then◌else◌, List, [], ◌∷◌, Option, Some, None, refl, sym, ◌∙◌, subst, arith, ◌||◌, length, ◌-◌, ap, IfSome}
use Rattle.std.proofs.lemmas.Bool.{and_parts, true≢false}
use Rattle.std.specs.Prelude.{drop, is_none, is_some, option_map}
use Rattle.machine_plan.specs.{declared.launch.Launch.Launch}
use Rattle.qpu_law.specs.Home.{Home}
use Rattle.qpu_machine.specs.declared.state.Fate.TheVariants.{GoesOn, Switches, Ends}
use Rattle.qpu_machine.specs.Qpu.{active_of, queue_count, left_by, gives_way, woken_slot, fresh_thread, queue_with, after_turn, went, oldest, queue_of, with_result, after_drop, result_given, after_service, has_none, is_beside, takes_first, takes_other, in_first, in_other, started_in, after_launch}
use Rattle.qpu_machine.specs.{declared.state.Asked.Asked, declared.state.Fate.Fate, declared.state.Qpu.Qpu, declared.state.Request.Request}
use Rattle.qpu_machine.specs.{declared.state.Thread.Thread, Start.thread_of, Step.ThreadTurn}
use Rattle.promises.specs.Steps.{one_if}
use Rattle.served_law.specs.Known.{AreBeside}
use Rattle.served_law.proofs.{Threads.asks, Beside.IsLike, Beside.beside_turn, Beside.beside_both, Beside.like_same, Beside.like_woken, Beside.like_result, Beside.like_left, Beside.beside_threaded, Beside.runs_beside}
use Rattle.served_law.proofs.Processors.{own_queued, other_queued, got_by, kept_by, taken_mine, taken_other, none_queued, chosen_by}
use Rattle.strict_law.specs.{Known.LaunchStrict, Known.ThreadStrict, Known.SlotStrict, Known.QpuStrict, Known.KeepsNone, Known.Ordered, Known.InOrder, Known.next_old, Order.order_after}
use Rattle.strict_law.proofs.Orders.{settled_order, in_settled_other, in_settled_first, none_left, empty_order}
use Rattle.qpu_machine.specs.{Bounds.finished0, Bounds.finished1}
use Rattle.qpu_isa.specs.Terms.{writes_s, loads}
use Rattle.machine_law.specs.Units.{EachAt}
use Rattle.strict_law.proofs.{Staying.Stays, Staying.stays_fresh, Staying.stays_given, Threads.ThreadGoes, Threads.thread_begins}

-- by equal counts
slot_same : (IsOf : ℕ → Home → Type 0) (queued0 queued1 same0 same1 old0 old1 : ℕ) (slot : Option Thread) → queued0 ≡ same0 → queued1 ≡ same1 → SlotStrict IsOf queued0 queued1 old0 old1 slot → SlotStrict IsOf same0 same1 old0 old1 slot
slot_same IsOf queued0 queued1 same0 same1 old0 old1 slot first second left =
    subst (λ n. SlotStrict IsOf same0 n old0 old1 slot) second (subst (λ n. SlotStrict IsOf n queued1 old0 old1 slot) first left)

pub in_same : (second : Bool) (order : List Bool) (first_old first_all other_old other_all first_same other_same : ℕ) → first_all ≡ first_same → other_all ≡ other_same → InOrder second order first_old first_all other_old other_all
    → InOrder second order first_old first_same other_old other_same
in_same second order first_old first_all other_old other_all first_same other_same first other left =
    subst (λ n. InOrder second order first_old first_same other_old n) other (subst (λ n. InOrder second order first_old n other_old other_all) first left)

in_turn : (second : Bool) (order : List Bool) (other_old other_all first_old first_all other_same first_same : ℕ) → other_all ≡ other_same → first_all ≡ first_same → InOrder second order first_old first_all other_old other_all
    → InOrder second order first_old first_same other_old other_same
in_turn second order other_old other_all first_old first_all other_same first_same other first left = in_same second order first_old first_all other_old other_all first_same other_same first other left

-- one that is idle has nothing
pub record HasNothing (all0 all1 old0 old1 : ℕ) : Type 0 where
  pub all0_is : all0 ≡ 0
  pub all1_is : all1 ≡ 0
  pub old0_is : old0 ≡ 0
  pub old1_is : old1 ≡ 0

idle_slot : (IsOf : ℕ → Home → Type 0) (queued0 queued1 old0 old1 : ℕ) (slot : Option Thread) → slot ≡ None → SlotStrict IsOf queued0 queued1 old0 old1 slot → HasNothing (queued0 + finished0 slot) (queued1 + finished1 slot) old0 old1
idle_slot IsOf queued0 queued1 old0 old1 None is left =
    let one = left.0 in
    let two = left.1 in
    record { all0_is = omega (arith, one); all1_is = omega (arith, two); old0_is = left.2; old1_is = left.3 }
idle_slot IsOf queued0 queued1 old0 old1 (Some t) is left = absurd cc

-- so is the one beside a thread that isn't threaded
pub single_slot : (IsOf : ℕ → Home → Type 0) (queued0 queued1 old0 old1 : ℕ) (t : Thread) (slot : Option Thread) → AreBeside (Some t) slot → t.threaded ≡ false → SlotStrict IsOf queued0 queued1 old0 old1 slot
    → HasNothing (queued0 + finished0 slot) (queued1 + finished1 slot) old0 old1
single_slot IsOf queued0 queued1 old0 old1 t None beside off left = idle_slot IsOf queued0 queued1 old0 old1 None refl left
single_slot IsOf queued0 queued1 old0 old1 t (Some o) beside off left = absurd (true≢false (sym beside.0 ∙ off))

-- What is known of a thread stays known where it stays, does so of its job, and has as many requests and results.
pub thread_stays : (IsHere IsThere : ℕ → Home → Type 0) (queued0 queued1 next0 next1 old0 old1 : ℕ) (t next : Thread) → Stays t next → ((home : Home) → IsHere t.job home → IsThere t.job home)
    → queued0 + length t.results0.items ≡ next0 + length next.results0.items → queued1 + length t.results1.items ≡ next1 + length next.results1.items → ThreadStrict IsHere queued0 queued1 old0 old1 t → ThreadStrict IsThere next0 next1 old0 old1 next
thread_stays IsHere IsThere queued0 queued1 next0 next1 old0 old1 t next stays goes same0 same1 left = record {
  home = left.home;
  strict = left.strict;
  stands = subst (λ j. IsThere j left.home) (sym stays.job) (goes left.home left.stands);
  index = left.index;
  at = stays.at left.home left.index left.at;
  pending = stays.pending left.home.code left.index left.pending;
  tmu0 = sym same0 ∙ left.tmu0;
  tmu1 = sym same1 ∙ left.tmu1;
  split0 = left.split0;
  split1 = left.split1;
}

woken_strict : (IsOf : ℕ → Home → Type 0) (queued0 queued1 old0 old1 : ℕ) (over : Bool) (slot : Option Thread) → SlotStrict IsOf queued0 queued1 old0 old1 slot → SlotStrict IsOf queued0 queued1 old0 old1 (woken_slot over slot)
woken_strict IsOf queued0 queued1 old0 old1 false slot left = left
woken_strict IsOf queued0 queued1 old0 old1 true None left = left
woken_strict IsOf queued0 queued1 old0 old1 true (Some t) left = thread_stays IsOf IsOf queued0 queued1 queued0 queued1 old0 old1 t (fresh_thread t) (stays_fresh t) (λ home stands. stands) refl refl left

woken_has : (over : Bool) (slot : Option Thread) → (finished0 (woken_slot over slot) ≡ finished0 slot) × (finished1 (woken_slot over slot) ≡ finished1 slot)
woken_has false slot = (refl, refl)
woken_has true None = (refl, refl)
woken_has true (Some t) = (refl, refl)

-- A step of the active thread.
own_strict : (IsOf : ℕ → Home → Type 0) (queued0 queued1 old0 old1 all0 all1 : ℕ) (t : Thread) (fate : Fate) → (fate ≢ Ends → ThreadStrict IsOf queued0 queued1 (next_old fate old0 all0) (next_old fate old1 all1) t) → (fate ≡ Ends → (queued0 ≡ 0) × (queued1 ≡ 0))
    → SlotStrict IsOf queued0 queued1 (next_old fate old0 all0) (next_old fate old1 all1) (left_by fate t)
own_strict IsOf queued0 queued1 old0 old1 all0 all1 t GoesOn left over = left (λ e. cc)
own_strict IsOf queued0 queued1 old0 old1 all0 all1 t Switches left over = left (λ e. cc)
own_strict IsOf queued0 queued1 old0 old1 all0 all1 t Ends left over = ((over refl).0, (over refl).1, refl, refl)

-- the thread that rests then keeps no set-up words
rest_first : (over : Bool) (first own : Option Thread) → IfSome first KeepsNone → (over ≡ true → IfSome own KeepsNone) → IfSome (if (if over && is_some first then false else true) then woken_slot over first else own) KeepsNone
rest_first false first own rests switched = rests
rest_first true None own rests switched = tt
rest_first true (Some t) own rests switched = switched refl

rest_other : (over : Bool) (other own : Option Thread) → IfSome other KeepsNone → (over ≡ true → IfSome own KeepsNone) → IfSome (if (if over && is_some other then true else false) then own else woken_slot over other) KeepsNone
rest_other false other own rests switched = rests
rest_other true None own rests switched = tt
rest_other true (Some t) own rests switched = switched refl

own_rests : (t : Thread) (fate : Fate) → (fate ≡ Switches → KeepsNone t) → gives_way fate ≡ true → IfSome (left_by fate t) KeepsNone
own_rests t GoesOn words over = absurd cc
own_rests t Switches words over = words refl
own_rests t Ends words over = tt

own_has : (t : Thread) (fate : Fate) (queued0 queued1 : ℕ) → ((fate ≡ Ends → queued0 + length t.results0.items ≡ 0) → queued0 + length t.results0.items ≡ queued0 + finished0 (left_by fate t)) × ((fate ≡ Ends → queued1 + length t.results1.items ≡ 0) → queued1 + length t.results1.items ≡ queued1 + finished1 (left_by fate t))
own_has t GoesOn queued0 queued1 = (λ over. refl, λ over. refl)
own_has t Switches queued0 queued1 = (λ over. refl, λ over. refl)
own_has t Ends queued0 queued1 = (λ over. let none = over refl in omega (arith, none), λ over. let none = over refl in omega (arith, none))

settled_strict : (IsOf : ℕ → Home → Type 0) (q : Qpu) (second : Bool) (t : Thread) (w : ℕ) (turn : ThreadTurn) (order0 order1 : List Bool) → (if second then q.other else q.first) ≡ Some t → (left : QpuStrict IsOf order0 order1 (record q { second = second }))
    → ThreadGoes IsOf (queue_count second q.queue0.items) (queue_count second q.queue1.items) (if second then left.other0 else left.first0) (if second then left.other1 else left.first1) t w turn
    → QpuStrict IsOf (order_after 0 w second order0) (order_after 1 w second order1) (went (record q { second = second }) t turn)
unfolding after_turn
settled_strict IsOf q true t w turn order0 order1 active left goes =
    let fate : Fate = turn.leaves.fate in
    let over : Bool = gives_way fate in
    let asked : Option Asked = turn.leaves.asked in
    let own : Option Thread = left_by fate turn.thread in
    let own0 = own_queued 0 true t.job asked q.queue0.items in
    let own1 = own_queued 1 true t.job asked q.queue1.items in
    let rest0 = other_queued 0 true t.job asked q.queue0.items in
    let rest1 = other_queued 1 true t.job asked q.queue1.items in
    let next0 : ℕ = queue_count true q.queue0.items + asks 0 asked + length turn.thread.results0.items in
    let next1 : ℕ = queue_count true q.queue1.items + asks 1 asked + length turn.thread.results1.items in
    let has = own_has turn.thread fate (queue_count true q.queue0.items + asks 0 asked) (queue_count true q.queue1.items + asks 1 asked) in
    let woken = woken_has over q.first in
    let beside : AreBeside (Some t) q.first = subst (λ (slot : Option Thread). AreBeside slot q.first) active (beside_turn q.first q.other left.beside) in
    let all0 : queue_count true q.queue0.items + finished0 q.other ≡ queue_count true q.queue0.items + length t.results0.items = ap (λ (slot : Option Thread). queue_count true q.queue0.items + finished0 slot) active in
    let all1 : queue_count true q.queue1.items + finished1 q.other ≡ queue_count true q.queue1.items + length t.results1.items = ap (λ (slot : Option Thread). queue_count true q.queue1.items + finished1 slot) active in
    let nothing : t.threaded ≡ false → HasNothing (queue_count false q.queue0.items + finished0 q.first) (queue_count false q.queue1.items + finished1 q.first) left.first0 left.first1 =
    λ off. single_slot IsOf (queue_count false q.queue0.items) (queue_count false q.queue1.items) left.first0 left.first1 t q.first beside off left.first in
    let idle : q.first ≡ None → HasNothing (queue_count false q.queue0.items + finished0 q.first) (queue_count false q.queue1.items + finished1 q.first) left.first0 left.first1 =
    λ none. idle_slot IsOf (queue_count false q.queue0.items) (queue_count false q.queue1.items) left.first0 left.first1 q.first none left.first in
    record {
      first0 = left.first0;
      first1 = left.first1;
      other0 = next_old fate (left.other0 - one_if (loads w 0)) next0;
      other1 = next_old fate (left.other1 - one_if (loads w 1)) next1;
      first = slot_same IsOf (queue_count false q.queue0.items) (queue_count false q.queue1.items) (queue_count false (queue_with 0 true t.job asked q.queue0.items)) (queue_count false (queue_with 1 true t.job asked q.queue1.items)) left.first0 left.first1 (woken_slot over q.first)
          (sym rest0) (sym rest1) (woken_strict IsOf (queue_count false q.queue0.items) (queue_count false q.queue1.items) left.first0 left.first1 over q.first left.first);
      other = slot_same IsOf (queue_count true q.queue0.items + asks 0 asked) (queue_count true q.queue1.items + asks 1 asked) (queue_count true (queue_with 0 true t.job asked q.queue0.items)) (queue_count true (queue_with 1 true t.job asked q.queue1.items))
          (next_old fate (left.other0 - one_if (loads w 0)) next0) (next_old fate (left.other1 - one_if (loads w 1)) next1) own (sym own0) (sym own1)
          (own_strict IsOf (queue_count true q.queue0.items + asks 0 asked) (queue_count true q.queue1.items + asks 1 asked) (left.other0 - one_if (loads w 0)) (left.other1 - one_if (loads w 1)) next0 next1 turn.thread fate goes.left
          (λ ends. let none = goes.over ends in let none0 = none.0 in let none1 = none.1 in (omega (arith, none0), omega (arith, none1))));
      beside = beside_both q.first q.other (woken_slot over q.first) own (like_woken over q.first) (subst (λ (slot : Option Thread). IsLike own slot) (sym active) (like_left t turn.thread fate goes.threaded)) left.beside;
      rests = rest_first over q.first own left.rests (own_rests turn.thread fate goes.words);
      in0 = in_same (if over && is_some q.first then false else true) (order_after 0 w true order0) left.first0 (queue_count false q.queue0.items + finished0 q.first) (next_old fate (left.other0 - one_if (loads w 0)) next0) next0
          (queue_count false (queue_with 0 true t.job asked q.queue0.items) + finished0 (woken_slot over q.first)) (queue_count true (queue_with 0 true t.job asked q.queue0.items) + finished0 own)
          (ap (λ n. n + finished0 q.first) (sym rest0) ∙ ap (λ n. queue_count false (queue_with 0 true t.job asked q.queue0.items) + n) (sym woken.0)) (has.0 (λ ends. (goes.over ends).0) ∙ ap (λ n. n + finished0 own) (sym own0))
          (in_settled_other (over && is_some q.first) (order_after 0 w true order0) left.first0 (queue_count false q.queue0.items + finished0 q.first) (next_old fate (left.other0 - one_if (loads w 0)) next0) next0
          (settled_order true (loads w 0) (writes_s w 0) t.threaded order0 left.other0 (queue_count true q.queue0.items + length t.results0.items) left.first0 (queue_count false q.queue0.items + finished0 q.first) next0 fate q.first
          (subst (λ n. Ordered true order0 left.other0 n left.first0 (queue_count false q.queue0.items + finished0 q.first)) all0 left.in0) goes.goes0 (λ off. (nothing off).all0_is) (λ ends. (goes.over ends).0) (λ none. (idle none).all0_is)));
      in1 = in_same (if over && is_some q.first then false else true) (order_after 1 w true order1) left.first1 (queue_count false q.queue1.items + finished1 q.first) (next_old fate (left.other1 - one_if (loads w 1)) next1) next1
          (queue_count false (queue_with 1 true t.job asked q.queue1.items) + finished1 (woken_slot over q.first)) (queue_count true (queue_with 1 true t.job asked q.queue1.items) + finished1 own)
          (ap (λ n. n + finished1 q.first) (sym rest1) ∙ ap (λ n. queue_count false (queue_with 1 true t.job asked q.queue1.items) + n) (sym woken.1)) (has.1 (λ ends. (goes.over ends).1) ∙ ap (λ n. n + finished1 own) (sym own1))
          (in_settled_other (over && is_some q.first) (order_after 1 w true order1) left.first1 (queue_count false q.queue1.items + finished1 q.first) (next_old fate (left.other1 - one_if (loads w 1)) next1) next1
          (settled_order true (loads w 1) (writes_s w 1) t.threaded order1 left.other1 (queue_count true q.queue1.items + length t.results1.items) left.first1 (queue_count false q.queue1.items + finished1 q.first) next1 fate q.first
          (subst (λ n. Ordered true order1 left.other1 n left.first1 (queue_count false q.queue1.items + finished1 q.first)) all1 left.in1) goes.goes1 (λ off. (nothing off).all1_is) (λ ends. (goes.over ends).1) (λ none. (idle none).all1_is)));
    }
settled_strict IsOf q false t w turn order0 order1 active left goes =
    let fate : Fate = turn.leaves.fate in
    let over : Bool = gives_way fate in
    let asked : Option Asked = turn.leaves.asked in
    let own : Option Thread = left_by fate turn.thread in
    let own0 = own_queued 0 false t.job asked q.queue0.items in
    let own1 = own_queued 1 false t.job asked q.queue1.items in
    let rest0 = other_queued 0 false t.job asked q.queue0.items in
    let rest1 = other_queued 1 false t.job asked q.queue1.items in
    let next0 : ℕ = queue_count false q.queue0.items + asks 0 asked + length turn.thread.results0.items in
    let next1 : ℕ = queue_count false q.queue1.items + asks 1 asked + length turn.thread.results1.items in
    let has = own_has turn.thread fate (queue_count false q.queue0.items + asks 0 asked) (queue_count false q.queue1.items + asks 1 asked) in
    let woken = woken_has over q.other in
    let beside : AreBeside (Some t) q.other = subst (λ (slot : Option Thread). AreBeside slot q.other) active left.beside in
    let all0 : queue_count false q.queue0.items + finished0 q.first ≡ queue_count false q.queue0.items + length t.results0.items = ap (λ (slot : Option Thread). queue_count false q.queue0.items + finished0 slot) active in
    let all1 : queue_count false q.queue1.items + finished1 q.first ≡ queue_count false q.queue1.items + length t.results1.items = ap (λ (slot : Option Thread). queue_count false q.queue1.items + finished1 slot) active in
    let nothing : t.threaded ≡ false → HasNothing (queue_count true q.queue0.items + finished0 q.other) (queue_count true q.queue1.items + finished1 q.other) left.other0 left.other1 =
    λ off. single_slot IsOf (queue_count true q.queue0.items) (queue_count true q.queue1.items) left.other0 left.other1 t q.other beside off left.other in
    let idle : q.other ≡ None → HasNothing (queue_count true q.queue0.items + finished0 q.other) (queue_count true q.queue1.items + finished1 q.other) left.other0 left.other1 =
    λ none. idle_slot IsOf (queue_count true q.queue0.items) (queue_count true q.queue1.items) left.other0 left.other1 q.other none left.other in
    record {
      other0 = left.other0;
      other1 = left.other1;
      first0 = next_old fate (left.first0 - one_if (loads w 0)) next0;
      first1 = next_old fate (left.first1 - one_if (loads w 1)) next1;
      other = slot_same IsOf (queue_count true q.queue0.items) (queue_count true q.queue1.items) (queue_count true (queue_with 0 false t.job asked q.queue0.items)) (queue_count true (queue_with 1 false t.job asked q.queue1.items)) left.other0 left.other1 (woken_slot over q.other)
          (sym rest0) (sym rest1) (woken_strict IsOf (queue_count true q.queue0.items) (queue_count true q.queue1.items) left.other0 left.other1 over q.other left.other);
      first = slot_same IsOf (queue_count false q.queue0.items + asks 0 asked) (queue_count false q.queue1.items + asks 1 asked) (queue_count false (queue_with 0 false t.job asked q.queue0.items)) (queue_count false (queue_with 1 false t.job asked q.queue1.items))
          (next_old fate (left.first0 - one_if (loads w 0)) next0) (next_old fate (left.first1 - one_if (loads w 1)) next1) own (sym own0) (sym own1)
          (own_strict IsOf (queue_count false q.queue0.items + asks 0 asked) (queue_count false q.queue1.items + asks 1 asked) (left.first0 - one_if (loads w 0)) (left.first1 - one_if (loads w 1)) next0 next1 turn.thread fate goes.left
          (λ ends. let none = goes.over ends in let none0 = none.0 in let none1 = none.1 in (omega (arith, none0), omega (arith, none1))));
      beside = beside_both q.first q.other own (woken_slot over q.other) (subst (λ (slot : Option Thread). IsLike own slot) (sym active) (like_left t turn.thread fate goes.threaded)) (like_woken over q.other) left.beside;
      rests = rest_other over q.other own left.rests (own_rests turn.thread fate goes.words);
      in0 = in_turn (if over && is_some q.other then true else false) (order_after 0 w false order0) left.other0 (queue_count true q.queue0.items + finished0 q.other) (next_old fate (left.first0 - one_if (loads w 0)) next0) next0
          (queue_count true (queue_with 0 false t.job asked q.queue0.items) + finished0 (woken_slot over q.other)) (queue_count false (queue_with 0 false t.job asked q.queue0.items) + finished0 own)
          (ap (λ n. n + finished0 q.other) (sym rest0) ∙ ap (λ n. queue_count true (queue_with 0 false t.job asked q.queue0.items) + n) (sym woken.0)) (has.0 (λ ends. (goes.over ends).0) ∙ ap (λ n. n + finished0 own) (sym own0))
          (in_settled_first (over && is_some q.other) (order_after 0 w false order0) left.other0 (queue_count true q.queue0.items + finished0 q.other) (next_old fate (left.first0 - one_if (loads w 0)) next0) next0
          (settled_order false (loads w 0) (writes_s w 0) t.threaded order0 left.first0 (queue_count false q.queue0.items + length t.results0.items) left.other0 (queue_count true q.queue0.items + finished0 q.other) next0 fate q.other
          (subst (λ n. Ordered false order0 left.first0 n left.other0 (queue_count true q.queue0.items + finished0 q.other)) all0 left.in0) goes.goes0 (λ off. (nothing off).all0_is) (λ ends. (goes.over ends).0) (λ none. (idle none).all0_is)));
      in1 = in_turn (if over && is_some q.other then true else false) (order_after 1 w false order1) left.other1 (queue_count true q.queue1.items + finished1 q.other) (next_old fate (left.first1 - one_if (loads w 1)) next1) next1
          (queue_count true (queue_with 1 false t.job asked q.queue1.items) + finished1 (woken_slot over q.other)) (queue_count false (queue_with 1 false t.job asked q.queue1.items) + finished1 own)
          (ap (λ n. n + finished1 q.other) (sym rest1) ∙ ap (λ n. queue_count true (queue_with 1 false t.job asked q.queue1.items) + n) (sym woken.1)) (has.1 (λ ends. (goes.over ends).1) ∙ ap (λ n. n + finished1 own) (sym own1))
          (in_settled_first (over && is_some q.other) (order_after 1 w false order1) left.other1 (queue_count true q.queue1.items + finished1 q.other) (next_old fate (left.first1 - one_if (loads w 1)) next1) next1
          (settled_order false (loads w 1) (writes_s w 1) t.threaded order1 left.first1 (queue_count false q.queue1.items + length t.results1.items) left.other1 (queue_count true q.queue1.items + finished1 q.other) next1 fate q.other
          (subst (λ n. Ordered false order1 left.first1 n left.other1 (queue_count true q.queue1.items + finished1 q.other)) all1 left.in1) goes.goes1 (λ off. (nothing off).all1_is) (λ ends. (goes.over ends).1) (λ none. (idle none).all1_is)));
    }

active_by : (IsOf : ℕ → Home → Type 0) (second : Bool) (queue0 queue1 : List Request) (first0 first1 other0 other1 : ℕ) (first other : Option Thread) → SlotStrict IsOf (queue_count false queue0) (queue_count false queue1) first0 first1 first
    → SlotStrict IsOf (queue_count true queue0) (queue_count true queue1) other0 other1 other
    → SlotStrict IsOf (queue_count second queue0) (queue_count second queue1) (if second then other0 else first0) (if second then other1 else first1) (if second then other else first)
active_by IsOf true queue0 queue1 first0 first1 other0 other1 first other one two = two
active_by IsOf false queue0 queue1 first0 first1 other0 other1 first other one two = one

pub active_strict : (IsOf : ℕ → Home → Type 0) (order0 order1 : List Bool) (q : Qpu) → (left : QpuStrict IsOf order0 order1 q)
    → SlotStrict IsOf (queue_count q.second q.queue0.items) (queue_count q.second q.queue1.items) (if q.second then left.other0 else left.first0) (if q.second then left.other1 else left.first1) (active_of q)
active_strict IsOf order0 order1 q left = active_by IsOf q.second q.queue0.items q.queue1.items left.first0 left.first1 left.other0 left.other1 q.first q.other left.first left.other

pub went_strict : (IsOf : ℕ → Home → Type 0) (q : Qpu) (t : Thread) (w : ℕ) (turn : ThreadTurn) (order0 order1 : List Bool) → active_of q ≡ Some t → (left : QpuStrict IsOf order0 order1 q)
    → ThreadGoes IsOf (queue_count q.second q.queue0.items) (queue_count q.second q.queue1.items) (if q.second then left.other0 else left.first0) (if q.second then left.other1 else left.first1) t w turn
    → QpuStrict IsOf (order_after 0 w q.second order0) (order_after 1 w q.second order1) (went q t turn)
went_strict IsOf q t w turn order0 order1 active left goes = settled_strict IsOf q q.second t w turn order0 order1 active left goes

-- A step of a texture unit: a thread's oldest request becomes a result.
got_strict : (IsOf : ℕ → Home → Type 0) (before0 before1 after0 after1 old0 old1 tmu : ℕ) (row : Option (List ℕ)) (slot : Option Thread) → before0 ≡ after0 + one_if (tmu == 0) → before1 ≡ after1 + one_if (not (tmu == 0))
    → SlotStrict IsOf before0 before1 old0 old1 slot → SlotStrict IsOf after0 after1 old0 old1 (option_map (with_result tmu row) slot)
got_strict IsOf before0 before1 after0 after1 old0 old1 tmu row None fewer0 fewer1 left =
    let none0 = left.0 in
    let none1 = left.1 in
    (omega (arith, none0, fewer0), omega (arith, none1, fewer1), left.2, left.3)
got_strict IsOf before0 before1 after0 after1 old0 old1 tmu row (Some t) fewer0 fewer1 left =
    let more0 = got_by (tmu == 0) t.results0.items row in
    let more1 = kept_by (tmu == 0) t.results1.items row in
    thread_stays IsOf IsOf before0 before1 after0 after1 old0 old1 t (with_result tmu row t) (stays_given tmu row t) (λ home stands. stands) (omega (arith, more0, fewer0)) (omega (arith, more1, fewer1)) left

got_all : (IsOf : ℕ → Home → Type 0) (before0 before1 after0 after1 old0 old1 tmu : ℕ) (row : Option (List ℕ)) (slot : Option Thread) → before0 ≡ after0 + one_if (tmu == 0) → before1 ≡ after1 + one_if (not (tmu == 0))
    → SlotStrict IsOf before0 before1 old0 old1 slot
    → (before0 + finished0 slot ≡ after0 + finished0 (option_map (with_result tmu row) slot)) × (before1 + finished1 slot ≡ after1 + finished1 (option_map (with_result tmu row) slot))
got_all IsOf before0 before1 after0 after1 old0 old1 tmu row None fewer0 fewer1 left =
    let none0 = left.0 in
    let none1 = left.1 in
    (omega (arith, none0, fewer0), omega (arith, none1, fewer1))
got_all IsOf before0 before1 after0 after1 old0 old1 tmu row (Some t) fewer0 fewer1 left =
    let more0 = got_by (tmu == 0) t.results0.items row in
    let more1 = kept_by (tmu == 0) t.results1.items row in
    (omega (arith, more0, fewer0), omega (arith, more1, fewer1))

got_rests : (tmu : ℕ) (row : Option (List ℕ)) (slot : Option Thread) → IfSome slot KeepsNone → IfSome (option_map (with_result tmu row) slot) KeepsNone
got_rests tmu row None none = none
got_rests tmu row (Some t) none = none

other_rests : (active : Bool) (tmu : ℕ) (row : Option (List ℕ)) (first other : Option Thread) → IfSome (if active then first else other) KeepsNone → IfSome (if active then first else option_map (with_result tmu row) other) KeepsNone
other_rests true tmu row first other none = none
other_rests false tmu row first other none = got_rests tmu row other none

first_rests : (active : Bool) (tmu : ℕ) (row : Option (List ℕ)) (first other : Option Thread) → IfSome (if active then first else other) KeepsNone → IfSome (if active then option_map (with_result tmu row) first else other) KeepsNone
first_rests true tmu row first other none = got_rests tmu row first none
first_rests false tmu row first other none = none

served_by : (IsOf : ℕ → Home → Type 0) (tmu : ℕ) (q : Qpu) (second : Bool) (request : Request) (row : Option (List ℕ)) (order0 order1 : List Bool) → QpuStrict IsOf order0 order1 q → oldest (queue_of q tmu) ≡ Some request → request.second ≡ second
    → QpuStrict IsOf order0 order1 (result_given (after_drop q tmu) tmu second row)
unfolding after_drop result_given
served_by IsOf tmu q true request row order0 order1 left is mine =
    let one = taken_mine (tmu == 0) true q.queue0.items q.queue1.items request is mine in
    let two = taken_other (tmu == 0) true q.queue0.items q.queue1.items request is mine in
    let requests0 : List Request = if tmu == 0 then drop 1 q.queue0.items else q.queue0.items in
    let requests1 : List Request = if tmu == 0 then q.queue1.items else drop 1 q.queue1.items in
    let all = got_all IsOf (queue_count true q.queue0.items) (queue_count true q.queue1.items) (queue_count true requests0) (queue_count true requests1) left.other0 left.other1 tmu row q.other one.0 one.1 left.other in
    record {
      first0 = left.first0;
      first1 = left.first1;
      other0 = left.other0;
      other1 = left.other1;
      first = slot_same IsOf (queue_count false q.queue0.items) (queue_count false q.queue1.items) (queue_count false requests0) (queue_count false requests1) left.first0 left.first1 q.first two.0 two.1 left.first;
      other = got_strict IsOf (queue_count true q.queue0.items) (queue_count true q.queue1.items) (queue_count true requests0) (queue_count true requests1) left.other0 left.other1 tmu row q.other one.0 one.1 left.other;
      beside = beside_both q.first q.other q.first (option_map (with_result tmu row) q.other) (like_same q.first) (like_result tmu row q.other) left.beside;
      rests = other_rests q.second tmu row q.first q.other left.rests;
      in0 = in_same q.second order0 left.first0 (queue_count false q.queue0.items + finished0 q.first) left.other0 (queue_count true q.queue0.items + finished0 q.other) (queue_count false requests0 + finished0 q.first) (queue_count true requests0 + finished0 (option_map (with_result tmu row) q.other))
          (ap (λ n. n + finished0 q.first) two.0) all.0 left.in0;
      in1 = in_same q.second order1 left.first1 (queue_count false q.queue1.items + finished1 q.first) left.other1 (queue_count true q.queue1.items + finished1 q.other) (queue_count false requests1 + finished1 q.first) (queue_count true requests1 + finished1 (option_map (with_result tmu row) q.other))
          (ap (λ n. n + finished1 q.first) two.1) all.1 left.in1;
    }
served_by IsOf tmu q false request row order0 order1 left is mine =
    let one = taken_mine (tmu == 0) false q.queue0.items q.queue1.items request is mine in
    let two = taken_other (tmu == 0) false q.queue0.items q.queue1.items request is mine in
    let requests0 : List Request = if tmu == 0 then drop 1 q.queue0.items else q.queue0.items in
    let requests1 : List Request = if tmu == 0 then q.queue1.items else drop 1 q.queue1.items in
    let all = got_all IsOf (queue_count false q.queue0.items) (queue_count false q.queue1.items) (queue_count false requests0) (queue_count false requests1) left.first0 left.first1 tmu row q.first one.0 one.1 left.first in
    record {
      first0 = left.first0;
      first1 = left.first1;
      other0 = left.other0;
      other1 = left.other1;
      first = got_strict IsOf (queue_count false q.queue0.items) (queue_count false q.queue1.items) (queue_count false requests0) (queue_count false requests1) left.first0 left.first1 tmu row q.first one.0 one.1 left.first;
      other = slot_same IsOf (queue_count true q.queue0.items) (queue_count true q.queue1.items) (queue_count true requests0) (queue_count true requests1) left.other0 left.other1 q.other two.0 two.1 left.other;
      beside = beside_both q.first q.other (option_map (with_result tmu row) q.first) q.other (like_result tmu row q.first) (like_same q.other) left.beside;
      rests = first_rests q.second tmu row q.first q.other left.rests;
      in0 = in_same q.second order0 left.first0 (queue_count false q.queue0.items + finished0 q.first) left.other0 (queue_count true q.queue0.items + finished0 q.other) (queue_count false requests0 + finished0 (option_map (with_result tmu row) q.first)) (queue_count true requests0 + finished0 q.other)
          all.0 (ap (λ n. n + finished0 q.other) two.0) left.in0;
      in1 = in_same q.second order1 left.first1 (queue_count false q.queue1.items + finished1 q.first) left.other1 (queue_count true q.queue1.items + finished1 q.other) (queue_count false requests1 + finished1 (option_map (with_result tmu row) q.first)) (queue_count true requests1 + finished1 q.other)
          all.1 (ap (λ n. n + finished1 q.other) two.1) left.in1;
    }

pub served_strict : (IsOf : ℕ → Home → Type 0) (tmu : ℕ) (q : Qpu) (request : Request) (row : Option (List ℕ)) (order0 order1 : List Bool) → QpuStrict IsOf order0 order1 q → oldest (queue_of q tmu) ≡ Some request
    → QpuStrict IsOf order0 order1 (after_service q tmu request row)
served_strict IsOf tmu q request row order0 order1 left is = served_by IsOf tmu q request.second request row order0 order1 left is refl

-- Where a program starts, its thread has nothing, and two that run are threaded.
none_is : (slot : Option Thread) → is_none slot ≡ true → slot ≡ None
none_is None none = refl
none_is (Some t) none = absurd (true≢false (sym none))

-- a program that starts: it has no results and keeps no set-up words
pub record IsNew (threaded : Bool) (t : Thread) : Type 0 where
  pub threaded_is : t.threaded ≡ threaded
  pub results0 : length t.results0.items ≡ 0
  pub results1 : length t.results1.items ≡ 0
  pub words : KeepsNone t

starts_first : (second : Bool) (order : List Bool) (other : Option Thread) (old all : ℕ) → InOrder second order 0 0 old all → (other ≡ None → (old ≡ 0) × (all ≡ 0)) → InOrder (second && is_some other) order 0 0 old all
starts_first true order None old all left none =
    let both = none refl in
    subst (λ n. InOrder false order 0 0 n all) (sym both.0) (subst (λ n. InOrder false order 0 0 0 n) (sym both.1) (empty_order false order (none_left true order 0 all 0 old refl both.1 refl both.0 left)))
starts_first true order (Some o) old all left none = left
starts_first false order other old all left none = left

starts_other : (second : Bool) (order : List Bool) (first : Option Thread) (old all : ℕ) → InOrder second order old all 0 0 → (first ≡ None → (old ≡ 0) × (all ≡ 0)) → InOrder (second || is_none first) order old all 0 0
starts_other true order first old all left none = left
starts_other false order None old all left none =
    let both = none refl in
    subst (λ n. InOrder true order n all 0 0) (sym both.0) (subst (λ n. InOrder true order 0 n 0 0) (sym both.1) (empty_order true order (none_left false order all 0 old 0 both.1 refl both.0 refl left)))
starts_other false order (Some o) old all left none = left

new_first : (second : Bool) (t : Thread) (other first : Option Thread) → KeepsNone t → IfSome (if second then first else other) KeepsNone → IfSome (if second && is_some other then Some t else other) KeepsNone
new_first true t None first none rests = tt
new_first true t (Some o) first none rests = none
new_first false t other first none rests = rests

new_other : (second : Bool) (t : Thread) (first other : Option Thread) → KeepsNone t → IfSome (if second then first else other) KeepsNone → IfSome (if second || is_none first then first else Some t) KeepsNone
new_other true t first other none rests = rests
new_other false t None other none rests = tt
new_other false t (Some o) other none rests = none

in_zero_first : (second : Bool) (order : List Bool) (old all other_old other_all : ℕ) → old ≡ 0 → all ≡ 0 → InOrder second order old all other_old other_all → InOrder second order 0 0 other_old other_all
in_zero_first second order old all other_old other_all one two left = subst (λ n. InOrder second order n 0 other_old other_all) one (subst (λ n. InOrder second order old n other_old other_all) two left)

in_zero_other : (second : Bool) (order : List Bool) (first_old first_all old all : ℕ) → old ≡ 0 → all ≡ 0 → InOrder second order first_old first_all old all → InOrder second order first_old first_all 0 0
in_zero_other second order first_old first_all old all one two left = subst (λ n. InOrder second order first_old first_all n 0) one (subst (λ n. InOrder second order first_old first_all old n) two left)

in_first_strict : (IsOf : ℕ → Home → Type 0) (threaded : Bool) (q : Qpu) (t : Thread) (order0 order1 : List Bool) → IsNew threaded t → takes_first threaded q ≡ true → ThreadStrict IsOf 0 0 0 0 t → QpuStrict IsOf order0 order1 q → QpuStrict IsOf order0 order1 (in_first q t)
unfolding in_first takes_first
in_first_strict IsOf threaded q t order0 order1 new takes thread left =
    let parts = and_parts (is_none q.first && has_none false q) (if threaded then is_beside q.other else (is_none q.other && has_none true q)) takes in
    let idle = and_parts (is_none q.first) (has_none false q) parts.0 in
    let none = none_queued false q idle.1 in
    let none0 = none.0 in
    let none1 = none.1 in
    let results0 = new.results0 in
    let results1 = new.results1 in
    let here : HasNothing (queue_count false q.queue0.items + finished0 q.first) (queue_count false q.queue1.items + finished1 q.first) left.first0 left.first1 = idle_slot IsOf (queue_count false q.queue0.items) (queue_count false q.queue1.items) left.first0 left.first1 q.first (none_is q.first idle.0) left.first in
    let there : q.other ≡ None → HasNothing (queue_count true q.queue0.items + finished0 q.other) (queue_count true q.queue1.items + finished1 q.other) left.other0 left.other1 = λ is. idle_slot IsOf (queue_count true q.queue0.items) (queue_count true q.queue1.items) left.other0 left.other1 q.other is left.other in
    record {
      first0 = 0;
      first1 = 0;
      other0 = left.other0;
      other1 = left.other1;
      first = slot_same IsOf 0 0 (queue_count false q.queue0.items) (queue_count false q.queue1.items) 0 0 (Some t) (sym none.0) (sym none.1) thread;
      other = left.other;
      beside = runs_beside threaded t q new.threaded_is parts.1;
      rests = new_first q.second t q.other q.first new.words left.rests;
      in0 = subst (λ n. InOrder (q.second && is_some q.other) order0 0 n left.other0 (queue_count true q.queue0.items + finished0 q.other)) (omega (arith, none0, results0))
          (starts_first q.second order0 q.other left.other0 (queue_count true q.queue0.items + finished0 q.other)
          (in_zero_first q.second order0 left.first0 (queue_count false q.queue0.items + finished0 q.first) left.other0 (queue_count true q.queue0.items + finished0 q.other) here.old0_is here.all0_is left.in0) (λ is. ((there is).old0_is, (there is).all0_is)));
      in1 = subst (λ n. InOrder (q.second && is_some q.other) order1 0 n left.other1 (queue_count true q.queue1.items + finished1 q.other)) (omega (arith, none1, results1))
          (starts_first q.second order1 q.other left.other1 (queue_count true q.queue1.items + finished1 q.other)
          (in_zero_first q.second order1 left.first1 (queue_count false q.queue1.items + finished1 q.first) left.other1 (queue_count true q.queue1.items + finished1 q.other) here.old1_is here.all1_is left.in1) (λ is. ((there is).old1_is, (there is).all1_is)));
    }

in_other_strict : (IsOf : ℕ → Home → Type 0) (threaded : Bool) (q : Qpu) (t : Thread) (order0 order1 : List Bool) → IsNew threaded t → takes_other threaded q ≡ true → ThreadStrict IsOf 0 0 0 0 t → QpuStrict IsOf order0 order1 q → QpuStrict IsOf order0 order1 (in_other q t)
unfolding in_other takes_other
in_other_strict IsOf threaded q t order0 order1 new takes thread left =
    let parts = and_parts threaded ((is_none q.other && has_none true q) && is_beside q.first) takes in
    let more = and_parts (is_none q.other && has_none true q) (is_beside q.first) parts.1 in
    let idle = and_parts (is_none q.other) (has_none true q) more.0 in
    let none = none_queued true q idle.1 in
    let none0 = none.0 in
    let none1 = none.1 in
    let results0 = new.results0 in
    let results1 = new.results1 in
    let here : HasNothing (queue_count true q.queue0.items + finished0 q.other) (queue_count true q.queue1.items + finished1 q.other) left.other0 left.other1 = idle_slot IsOf (queue_count true q.queue0.items) (queue_count true q.queue1.items) left.other0 left.other1 q.other (none_is q.other idle.0) left.other in
    let there : q.first ≡ None → HasNothing (queue_count false q.queue0.items + finished0 q.first) (queue_count false q.queue1.items + finished1 q.first) left.first0 left.first1 = λ is. idle_slot IsOf (queue_count false q.queue0.items) (queue_count false q.queue1.items) left.first0 left.first1 q.first is left.first in
    record {
      first0 = left.first0;
      first1 = left.first1;
      other0 = 0;
      other1 = 0;
      first = left.first;
      other = slot_same IsOf 0 0 (queue_count true q.queue0.items) (queue_count true q.queue1.items) 0 0 (Some t) (sym none.0) (sym none.1) thread;
      beside = beside_turn (Some t) q.first (beside_threaded t q.first (new.threaded_is ∙ parts.0) more.1);
      rests = new_other q.second t q.first q.other new.words left.rests;
      in0 = subst (λ n. InOrder (q.second || is_none q.first) order0 left.first0 (queue_count false q.queue0.items + finished0 q.first) 0 n) (omega (arith, none0, results0))
          (starts_other q.second order0 q.first left.first0 (queue_count false q.queue0.items + finished0 q.first)
          (in_zero_other q.second order0 left.first0 (queue_count false q.queue0.items + finished0 q.first) left.other0 (queue_count true q.queue0.items + finished0 q.other) here.old0_is here.all0_is left.in0) (λ is. ((there is).old0_is, (there is).all0_is)));
      in1 = subst (λ n. InOrder (q.second || is_none q.first) order1 left.first1 (queue_count false q.queue1.items + finished1 q.first) 0 n) (omega (arith, none1, results1))
          (starts_other q.second order1 q.first left.first1 (queue_count false q.queue1.items + finished1 q.first)
          (in_zero_other q.second order1 left.first1 (queue_count false q.queue1.items + finished1 q.first) left.other1 (queue_count true q.queue1.items + finished1 q.other) here.old1_is here.all1_is left.in1) (λ is. ((there is).old1_is, (there is).all1_is)));
    }

-- among all processors, numbered from n on
abbrev pub EachStrict : (ℕ → Home → Type 0) → (ℕ → ℕ → List Bool) → ℕ → List Qpu → Type 0
EachStrict IsOf orders n qpus = EachAt (λ k q. QpuStrict IsOf (orders k 0) (orders k 1) q) n qpus

started_strict : (IsOf : ℕ → Home → Type 0) (threaded : Bool) (t : Thread) (orders : ℕ → ℕ → List Bool) (n : ℕ) (qpus : List Qpu) → IsNew threaded t → ThreadStrict IsOf 0 0 0 0 t → EachStrict IsOf orders n qpus → EachStrict IsOf orders n (started_in threaded t qpus)
started_strict IsOf threaded t orders n [] new thread all = tt
started_strict IsOf threaded t orders n (q ∷ qpus) new thread all =
    let All : List Qpu → Type 0 = λ qs. EachStrict IsOf orders n qs in
    chosen_by All (takes_first threaded q) (in_first q t ∷ qpus) (if takes_other threaded q then in_other q t ∷ qpus else q ∷ started_in threaded t qpus)
    (λ takes. (in_first_strict IsOf threaded q t (orders n 0) (orders n 1) new takes thread all.0, all.1))
    (λ off. chosen_by All (takes_other threaded q) (in_other q t ∷ qpus) (q ∷ started_in threaded t qpus)
    (λ takes. (in_other_strict IsOf threaded q t (orders n 0) (orders n 1) new takes thread all.0, all.1))
    (λ none. (all.0, started_strict IsOf threaded t orders (n + 1) qpus new thread all.1)))

launched_new : (j : ℕ) (launch : Launch) → IsNew launch.threaded (thread_of j launch)
unfolding thread_of
launched_new j launch = record { threaded_is = refl; results0 = refl; results1 = refl; words = (refl, refl) }

pub launched_strict : (IsOf : ℕ → Home → Type 0) (j : ℕ) (launch : Launch) (orders : ℕ → ℕ → List Bool) (qpus : List Qpu) → LaunchStrict (IsOf j) launch → EachStrict IsOf orders 0 qpus → EachStrict IsOf orders 0 (after_launch j launch qpus)
launched_strict IsOf j launch orders qpus known all = started_strict IsOf launch.threaded (thread_of j launch) orders 0 qpus (launched_new j launch) (thread_begins IsOf j launch known) all
