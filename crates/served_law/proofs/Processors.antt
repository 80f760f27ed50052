-- What is known of a processor: after a step of its thread, after one of a texture unit, and where a program starts in it.
use Rattle.std.proofs.Common.{◌≡◌, ◌≢◌, ℕ, suc, ◌+◌, ◌==◌, ◌&&◌, ◌||◌, not, Bool, true, false, if◌then◌else◌, List, [], ◌∷◌, ◌++◌, length, Option, Some, None, refl, sym, ◌∙◌, ap, subst, arith}
use Rattle.std.proofs.{lemmas.Bool.and_parts, lemmas.Bool.true≢false, lemmas.List.length-append}
use Rattle.std.proofs.lemmas.List.Sums.{sum_by-cons, sum_by_push}
use Rattle.std.specs.Prelude.{drop, is_some, is_none, option_map}
use Rattle.machine_plan.specs.{declared.launch.Launch.Launch, Regions.Every, Regions.Rights, Regions.rights_of}
use Rattle.apart_law.proofs.Places.{chosen}
use Rattle.qpu_machine.specs.declared.state.Fate.TheVariants.{GoesOn, Switches, Ends}
use Rattle.qpu_machine.specs.Qpu.{active_of, is_of, queue_count, left_by, gives_way, woken_slot, queue_with, after_turn, went, oldest, queue_of, with_result, after_drop, result_given, after_service, has_none, is_beside, takes_first, takes_other, in_first, in_other, started_in, after_launch}
use Rattle.qpu_machine.specs.{declared.state.Asked.Asked, declared.state.Fate.Fate, declared.state.Qpu.Qpu, declared.state.Request.Request}
use Rattle.qpu_machine.specs.{declared.state.Thread.Thread, Start.thread_of, Step.ThreadTurn}
use Rattle.promises.specs.{Steps.one_if, Finished.may_wait}
use Rattle.list_law.proofs.Logs.{same}
use Rattle.ends_law.proofs.Processors.{still_at}
use Rattle.served_law.specs.Known.{LaunchServed, ThreadServed, SlotServed, is_led, QpuServed}
use Rattle.served_law.proofs.Beside.{IsLike, beside_turn, beside_both, like_same, like_woken, like_result, like_left, beside_threaded, runs_beside}
use Rattle.served_law.proofs.Threads.{asks, ThreadGoes, thread_begins}

-- by equal counts
slot_same : (rights : List Rights) (K : List ℕ → Type 0) (queued0 queued1 same0 same1 : ℕ) (slot : Option Thread) → queued0 ≡ same0 → queued1 ≡ same1 → SlotServed rights K queued0 queued1 slot → SlotServed rights K same0 same1 slot
slot_same rights K queued0 queued1 same0 same1 slot first second left =
    subst (λ n. SlotServed rights K same0 n slot) second (subst (λ n. SlotServed rights K n queued1 slot) first left)

-- A thread that is woken is where it was.
woken_served : (rights : List Rights) (K : List ℕ → Type 0) (queued0 queued1 : ℕ) (over : Bool) (slot : Option Thread) → SlotServed rights K queued0 queued1 slot → SlotServed rights K queued0 queued1 (woken_slot over slot)
unfolding still_at
woken_served rights K queued0 queued1 false slot left = left
woken_served rights K queued0 queued1 true None left = left
woken_served rights K queued0 queued1 true (Some t) left =
    record { there = still_at (rights_of rights t.job) K (λ code. may_wait code ≡ false) t true t.a t.b t.results0.items t.results1.items left.there; tmu0 = left.tmu0; tmu1 = left.tmu1 }

-- What a thread asks for is queued for it, and for it alone.
own_by : (second goes : Bool) (requests : List Request) (request : Request) → is_of second request ≡ true → queue_count second (if goes then requests ++ request ∷ [] else requests) ≡ queue_count second requests + one_if goes
own_by second true requests request mine = sum_by_push (λ r. if is_of second r then 1 else 0) requests request ∙ ap (λ b. queue_count second requests + (if b then 1 else 0)) mine
own_by second false requests request mine = omega arith

other_by : (second goes : Bool) (requests : List Request) (request : Request) → is_of second request ≡ false → queue_count second (if goes then requests ++ request ∷ [] else requests) ≡ queue_count second requests
other_by second true requests request other = sum_by_push (λ r. if is_of second r then 1 else 0) requests request ∙ (ap (λ b. queue_count second requests + (if b then 1 else 0)) other ∙ omega arith)
other_by second false requests request other = refl

is_mine : (second : Bool) (request : Request) → request.second ≡ second → is_of second request ≡ true
is_mine true request is = is
is_mine false request is = ap (λ b. not b) is

is_other : (second : Bool) (request : Request) → request.second ≡ second → is_of (not second) request ≡ false
is_other true request is = ap (λ b. not b) is
is_other false request is = is

pub own_queued : (tmu : ℕ) (second : Bool) (job : ℕ) (asked : Option Asked) (requests : List Request) → queue_count second (queue_with tmu second job asked requests) ≡ queue_count second requests + asks tmu asked
own_queued tmu second job None requests = omega arith
own_queued tmu second job (Some asked) requests =
    let request : Request = record { second = second; job = job; ask = asked.ask } in
    own_by second (asked.tmu == tmu) requests request (is_mine second request refl)

pub other_queued : (tmu : ℕ) (second : Bool) (job : ℕ) (asked : Option Asked) (requests : List Request) → queue_count (not second) (queue_with tmu second job asked requests) ≡ queue_count (not second) requests
other_queued tmu second job None requests = refl
other_queued tmu second job (Some asked) requests =
    let request : Request = record { second = second; job = job; ask = asked.ask } in
    other_by (not second) (asked.tmu == tmu) requests request (is_other second request refl)

led_none : (b : Bool) → (b || true) ≡ true
led_none true = refl
led_none false = refl

-- Where a thread gives way, the other one leads, if it runs.
led_first : (over : Bool) (first own : Option Thread) → (over ≡ false → is_some own ≡ true) → is_led (if over && is_some first then false else true) (woken_slot over first) own ≡ true
led_first false first own runs = ap (λ b. b || is_none first) (runs refl)
led_first true None own runs = led_none (is_some own)
led_first true (Some t) own runs = refl

led_other : (over : Bool) (other own : Option Thread) → (over ≡ false → is_some own ≡ true) → is_led (if over && is_some other then true else false) own (woken_slot over other) ≡ true
led_other false other own runs = ap (λ b. b || is_none other) (runs refl)
led_other true None own runs = led_none (is_some own)
led_other true (Some t) own runs = refl

-- A step of the active thread.
own_served : (rights : List Rights) (K : List ℕ → Type 0) (queued0 queued1 : ℕ) (t : Thread) (fate : Fate) → (fate ≢ Ends → ThreadServed rights K queued0 queued1 t) → (fate ≡ Ends → (queued0 ≡ 0) × (queued1 ≡ 0)) → SlotServed rights K queued0 queued1 (left_by fate t)
own_served rights K queued0 queued1 t GoesOn left over = left (λ e. cc)
own_served rights K queued0 queued1 t Switches left over = left (λ e. cc)
own_served rights K queued0 queued1 t Ends left over = over refl

own_runs : (t : Thread) (fate : Fate) → gives_way fate ≡ false → is_some (left_by fate t) ≡ true
own_runs t GoesOn stays = refl
own_runs t Switches stays = absurd (true≢false stays)
own_runs t Ends stays = absurd (true≢false stays)

settled_served : (rights : List Rights) (K : List ℕ → Type 0) (q : Qpu) (second : Bool) (job : ℕ) (own : Option Thread) (over : Bool) (asked : Option Asked)
    → QpuServed rights K (record q { second = second }) → SlotServed rights K (queue_count second q.queue0.items + asks 0 asked) (queue_count second q.queue1.items + asks 1 asked) own → (over ≡ false → is_some own ≡ true) → IsLike own (if second then q.other else q.first)
    → QpuServed rights K (after_turn (record q { second = second }) job own over asked)
unfolding after_turn
settled_served rights K q true job own over asked left slot runs like = record {
  first = slot_same rights K (queue_count false q.queue0.items) (queue_count false q.queue1.items) (queue_count false (queue_with 0 true job asked q.queue0.items)) (queue_count false (queue_with 1 true job asked q.queue1.items)) (woken_slot over q.first)
      (sym (other_queued 0 true job asked q.queue0.items)) (sym (other_queued 1 true job asked q.queue1.items))
      (woken_served rights K (queue_count false q.queue0.items) (queue_count false q.queue1.items) over q.first left.first);
  other = slot_same rights K (queue_count true q.queue0.items + asks 0 asked) (queue_count true q.queue1.items + asks 1 asked) (queue_count true (queue_with 0 true job asked q.queue0.items)) (queue_count true (queue_with 1 true job asked q.queue1.items)) own
      (sym (own_queued 0 true job asked q.queue0.items)) (sym (own_queued 1 true job asked q.queue1.items)) slot;
  led = led_first over q.first own runs;
  beside = beside_both q.first q.other (woken_slot over q.first) own (like_woken over q.first) like left.beside;
}
settled_served rights K q false job own over asked left slot runs like = record {
  first = slot_same rights K (queue_count false q.queue0.items + asks 0 asked) (queue_count false q.queue1.items + asks 1 asked) (queue_count false (queue_with 0 false job asked q.queue0.items)) (queue_count false (queue_with 1 false job asked q.queue1.items)) own
      (sym (own_queued 0 false job asked q.queue0.items)) (sym (own_queued 1 false job asked q.queue1.items)) slot;
  other = slot_same rights K (queue_count true q.queue0.items) (queue_count true q.queue1.items) (queue_count true (queue_with 0 false job asked q.queue0.items)) (queue_count true (queue_with 1 false job asked q.queue1.items)) (woken_slot over q.other)
      (sym (other_queued 0 false job asked q.queue0.items)) (sym (other_queued 1 false job asked q.queue1.items))
      (woken_served rights K (queue_count true q.queue0.items) (queue_count true q.queue1.items) over q.other left.other);
  led = led_other over q.other own runs;
  beside = beside_both q.first q.other own (woken_slot over q.other) like (like_woken over q.other) left.beside;
}

active_by : (rights : List Rights) (K : List ℕ → Type 0) (second : Bool) (queue0 queue1 : List Request) (first other : Option Thread) → SlotServed rights K (queue_count false queue0) (queue_count false queue1) first
    → SlotServed rights K (queue_count true queue0) (queue_count true queue1) other → SlotServed rights K (queue_count second queue0) (queue_count second queue1) (if second then other else first)
active_by rights K true queue0 queue1 first other one two = two
active_by rights K false queue0 queue1 first other one two = one

pub active_served : (rights : List Rights) (K : List ℕ → Type 0) (q : Qpu) → QpuServed rights K q → SlotServed rights K (queue_count q.second q.queue0.items) (queue_count q.second q.queue1.items) (active_of q)
active_served rights K q left = active_by rights K q.second q.queue0.items q.queue1.items q.first q.other left.first left.other

pub went_served : (rights : List Rights) (K : List ℕ → Type 0) (q : Qpu) (t : Thread) (turn : ThreadTurn) → active_of q ≡ Some t → QpuServed rights K q → ThreadGoes rights K (queue_count q.second q.queue0.items) (queue_count q.second q.queue1.items) t turn
    → QpuServed rights K (went q t turn)
went_served rights K q t turn active left goes =
    settled_served rights K q q.second t.job (left_by turn.leaves.fate turn.thread) (gives_way turn.leaves.fate) turn.leaves.asked left
    (own_served rights K (queue_count q.second q.queue0.items + asks 0 turn.leaves.asked) (queue_count q.second q.queue1.items + asks 1 turn.leaves.asked) turn.thread turn.leaves.fate goes.left goes.over)
    (own_runs turn.thread turn.leaves.fate)
    (subst (λ (slot : Option Thread). IsLike (left_by turn.leaves.fate turn.thread) slot) (sym active) (like_left t turn.thread turn.leaves.fate goes.threaded))

-- A step of a texture unit: a thread's oldest request becomes a result.
pub got_by : {X : Type 0} (here : Bool) (results : List X) (row : X) → length (if here then results ++ row ∷ [] else results) ≡ length results + one_if here
got_by true results row = length-append results (row ∷ [])
got_by false results row = omega arith

pub kept_by : {X : Type 0} (here : Bool) (results : List X) (row : X) → length (if here then results else results ++ row ∷ []) ≡ length results + one_if (not here)
kept_by true results row = omega arith
kept_by false results row = length-append results (row ∷ [])

got_served : (rights : List Rights) (K : List ℕ → Type 0) (before0 before1 after0 after1 tmu : ℕ) (row : Option (List ℕ)) (slot : Option Thread) → before0 ≡ after0 + one_if (tmu == 0) → before1 ≡ after1 + one_if (not (tmu == 0))
    → SlotServed rights K before0 before1 slot → SlotServed rights K after0 after1 (option_map (with_result tmu row) slot)
unfolding still_at
got_served rights K before0 before1 after0 after1 tmu row None fewer0 fewer1 left = (let none = left.0 in omega (arith, none, fewer0), let none = left.1 in omega (arith, none, fewer1))
got_served rights K before0 before1 after0 after1 tmu row (Some t) fewer0 fewer1 left =
    let count0 = left.tmu0 in
    let count1 = left.tmu1 in
    let more0 = got_by (tmu == 0) t.results0.items row in
    let more1 = kept_by (tmu == 0) t.results1.items row in
    record {
      there = still_at (rights_of rights t.job) K (λ code. may_wait code ≡ false) t t.fresh t.a t.b (if tmu == 0 then t.results0.items ++ row ∷ [] else t.results0.items) (if tmu == 0 then t.results1.items else t.results1.items ++ row ∷ []) left.there;
      tmu0 = omega (arith, count0, more0, fewer0);
      tmu1 = omega (arith, count1, more1, fewer1);
    }

abbrev second_of : Option Request → Bool
second_of None = false
second_of (Some request) = request.second

drop_mine : (second : Bool) (requests : List Request) (request : Request) → oldest requests ≡ Some request → request.second ≡ second → queue_count second requests ≡ queue_count second (drop 1 requests) + 1
drop_mine second [] request is mine = absurd cc
drop_mine second (one ∷ requests) request is mine =
    let same_one : one.second ≡ second = ap (λ (o : Option Request). second_of o) is ∙ mine in
    let counts : queue_count second (one ∷ requests) ≡ 1 + queue_count second requests = sum_by-cons (λ r. if is_of second r then 1 else 0) one requests ∙ ap (λ b. (if b then 1 else 0) + queue_count second requests) (is_mine second one same_one) in
    omega (arith, counts)

drop_other : (second : Bool) (requests : List Request) (request : Request) → oldest requests ≡ Some request → request.second ≡ second → queue_count (not second) requests ≡ queue_count (not second) (drop 1 requests)
drop_other second [] request is mine = absurd cc
drop_other second (one ∷ requests) request is mine =
    let same_one : one.second ≡ second = ap (λ (o : Option Request). second_of o) is ∙ mine in
    let counts : queue_count (not second) (one ∷ requests) ≡ 0 + queue_count (not second) requests = sum_by-cons (λ r. if is_of (not second) r then 1 else 0) one requests ∙ ap (λ b. (if b then 1 else 0) + queue_count (not second) requests) (is_other second one same_one) in
    omega (arith, counts)

-- in the queue that it is taken from, and in the other one
pub taken_mine : (here second : Bool) (requests others : List Request) (request : Request) → oldest (if here then requests else others) ≡ Some request → request.second ≡ second
    → (queue_count second requests ≡ queue_count second (if here then drop 1 requests else requests) + one_if here) × (queue_count second others ≡ queue_count second (if here then others else drop 1 others) + one_if (not here))
taken_mine true second requests others request is mine = (drop_mine second requests request is mine, omega arith)
taken_mine false second requests others request is mine = (omega arith, drop_mine second others request is mine)

pub taken_other : (here second : Bool) (requests others : List Request) (request : Request) → oldest (if here then requests else others) ≡ Some request → request.second ≡ second
    → (queue_count (not second) requests ≡ queue_count (not second) (if here then drop 1 requests else requests)) × (queue_count (not second) others ≡ queue_count (not second) (if here then others else drop 1 others))
taken_other true second requests others request is mine = (drop_other second requests request is mine, refl)
taken_other false second requests others request is mine = (refl, drop_other second others request is mine)

got_led : (second over : Bool) (tmu : ℕ) (row : Option (List ℕ)) (first other : Option Thread) → is_led second first other ≡ true
    → is_led second (if over then first else option_map (with_result tmu row) first) (if over then option_map (with_result tmu row) other else other) ≡ true
got_led true true tmu row first None led = led
got_led true true tmu row first (Some t) led = refl
got_led true false tmu row None other led = led_none (is_some other)
got_led true false tmu row (Some t) other led = led
got_led false true tmu row first None led = led_none (is_some first)
got_led false true tmu row first (Some t) led = led
got_led false false tmu row None other led = led
got_led false false tmu row (Some t) other led = refl

served_by : (rights : List Rights) (K : List ℕ → Type 0) (tmu : ℕ) (q : Qpu) (second : Bool) (request : Request) (row : Option (List ℕ)) → QpuServed rights K q → oldest (queue_of q tmu) ≡ Some request → request.second ≡ second
    → QpuServed rights K (result_given (after_drop q tmu) tmu second row)
unfolding after_drop result_given
served_by rights K tmu q true request row left is mine =
    let one = taken_mine (tmu == 0) true q.queue0.items q.queue1.items request is mine in
    let two = taken_other (tmu == 0) true q.queue0.items q.queue1.items request is mine in
    let requests0 : List Request = if tmu == 0 then drop 1 q.queue0.items else q.queue0.items in
    let requests1 : List Request = if tmu == 0 then q.queue1.items else drop 1 q.queue1.items in
    record {
      first = slot_same rights K (queue_count false q.queue0.items) (queue_count false q.queue1.items) (queue_count false requests0) (queue_count false requests1) q.first two.0 two.1 left.first;
      other = got_served rights K (queue_count true q.queue0.items) (queue_count true q.queue1.items) (queue_count true requests0) (queue_count true requests1) tmu row q.other one.0 one.1 left.other;
      led = got_led q.second true tmu row q.first q.other left.led;
      beside = beside_both q.first q.other q.first (option_map (with_result tmu row) q.other) (like_same q.first) (like_result tmu row q.other) left.beside;
    }
served_by rights K tmu q false request row left is mine =
    let one = taken_mine (tmu == 0) false q.queue0.items q.queue1.items request is mine in
    let two = taken_other (tmu == 0) false q.queue0.items q.queue1.items request is mine in
    let requests0 : List Request = if tmu == 0 then drop 1 q.queue0.items else q.queue0.items in
    let requests1 : List Request = if tmu == 0 then q.queue1.items else drop 1 q.queue1.items in
    record {
      first = got_served rights K (queue_count false q.queue0.items) (queue_count false q.queue1.items) (queue_count false requests0) (queue_count false requests1) tmu row q.first one.0 one.1 left.first;
      other = slot_same rights K (queue_count true q.queue0.items) (queue_count true q.queue1.items) (queue_count true requests0) (queue_count true requests1) q.other two.0 two.1 left.other;
      led = got_led q.second false tmu row q.first q.other left.led;
      beside = beside_both q.first q.other (option_map (with_result tmu row) q.first) q.other (like_result tmu row q.first) (like_same q.other) left.beside;
    }

pub served_served : (rights : List Rights) (K : List ℕ → Type 0) (tmu : ℕ) (q : Qpu) (request : Request) (row : Option (List ℕ)) → QpuServed rights K q → oldest (queue_of q tmu) ≡ Some request
    → QpuServed rights K (after_service q tmu request row)
served_served rights K tmu q request row left is = served_by rights K tmu q request.second request row left is refl

-- Where a program starts, its thread has nothing queued.
pub none_queued : (second : Bool) (q : Qpu) → has_none second q ≡ true → (queue_count second q.queue0.items ≡ 0) × (queue_count second q.queue1.items ≡ 0)
none_queued second q none =
    let both = and_parts (queue_count second q.queue0.items == 0) (queue_count second q.queue1.items == 0) none in
    (same (queue_count second q.queue0.items) 0 both.0, same (queue_count second q.queue1.items) 0 both.1)

starts_led : (second : Bool) (t : Thread) (other : Option Thread) → is_led (second && is_some other) (Some t) other ≡ true
starts_led true t None = refl
starts_led true t (Some o) = refl
starts_led false t other = refl

starts_beside : (second : Bool) (first : Option Thread) (t : Thread) → is_led (second || is_none first) first (Some t) ≡ true
starts_beside true first t = refl
starts_beside false None t = refl
starts_beside false (Some o) t = refl

in_first_served : (rights : List Rights) (K : List ℕ → Type 0) (threaded : Bool) (q : Qpu) (t : Thread) → takes_first threaded q ≡ true → t.threaded ≡ threaded → ThreadServed rights K 0 0 t → QpuServed rights K q → QpuServed rights K (in_first q t)
unfolding in_first takes_first
in_first_served rights K threaded q t takes is thread left =
    let parts = and_parts (is_none q.first && has_none false q) (if threaded then is_beside q.other else (is_none q.other && has_none true q)) takes in
    let none = none_queued false q (and_parts (is_none q.first) (has_none false q) parts.0).1 in
    record {
      first = slot_same rights K 0 0 (queue_count false q.queue0.items) (queue_count false q.queue1.items) (Some t) (sym none.0) (sym none.1) thread;
      other = left.other;
      led = starts_led q.second t q.other;
      beside = runs_beside threaded t q is parts.1;
    }

in_other_served : (rights : List Rights) (K : List ℕ → Type 0) (threaded : Bool) (q : Qpu) (t : Thread) → takes_other threaded q ≡ true → t.threaded ≡ threaded → ThreadServed rights K 0 0 t → QpuServed rights K q → QpuServed rights K (in_other q t)
unfolding in_other takes_other
in_other_served rights K threaded q t takes is thread left =
    let parts = and_parts threaded ((is_none q.other && has_none true q) && is_beside q.first) takes in
    let more = and_parts (is_none q.other && has_none true q) (is_beside q.first) parts.1 in
    let none = none_queued true q (and_parts (is_none q.other) (has_none true q) more.0).1 in
    record {
      first = left.first;
      other = slot_same rights K 0 0 (queue_count true q.queue0.items) (queue_count true q.queue1.items) (Some t) (sym none.0) (sym none.1) thread;
      led = starts_beside q.second q.first t;
      beside = beside_turn (Some t) q.first (beside_threaded t q.first (is ∙ parts.0) more.1);
    }

-- by which side a test chooses
pub chosen_by : {X : Type 0} (P : X → Type 0) (b : Bool) (x y : X) → (b ≡ true → P x) → (b ≡ false → P y) → P (if b then x else y)
chosen_by P true x y one two = one refl
chosen_by P false x y one two = two refl

started_served : (rights : List Rights) (K : List ℕ → Type 0) (threaded : Bool) (t : Thread) (qpus : List Qpu) → t.threaded ≡ threaded → ThreadServed rights K 0 0 t → Every (QpuServed rights K) qpus → Every (QpuServed rights K) (started_in threaded t qpus)
started_served rights K threaded t [] is thread all = tt
started_served rights K threaded t (q ∷ qpus) is thread all =
    let All = Every (QpuServed rights K) in
    chosen_by All (takes_first threaded q) (in_first q t ∷ qpus) (if takes_other threaded q then in_other q t ∷ qpus else q ∷ started_in threaded t qpus)
    (λ takes. (in_first_served rights K threaded q t takes is thread all.0, all.1))
    (λ off. chosen_by All (takes_other threaded q) (in_other q t ∷ qpus) (q ∷ started_in threaded t qpus)
    (λ takes. (in_other_served rights K threaded q t takes is thread all.0, all.1))
    (λ none. (all.0, started_served rights K threaded t qpus is thread all.1)))

threaded_as : (j : ℕ) (launch : Launch) → (thread_of j launch).threaded ≡ launch.threaded
unfolding thread_of
threaded_as j launch = refl

pub launched_served : (rights : List Rights) (K : List ℕ → Type 0) (j : ℕ) (launch : Launch) (qpus : List Qpu) → LaunchServed rights K j launch → Every (QpuServed rights K) qpus → Every (QpuServed rights K) (after_launch j launch qpus)
launched_served rights K j launch qpus served all = started_served rights K launch.threaded (thread_of j launch) qpus (threaded_as j launch) (thread_begins rights K j launch served) all

-- and there are as many processors as before
started_long : (threaded : Bool) (t : Thread) (qpus : List Qpu) → length (started_in threaded t qpus) ≡ length qpus
started_long threaded t [] = refl
started_long threaded t (q ∷ qpus) =
    let n : ℕ = length (q ∷ qpus) in
    chosen (λ (qs : List Qpu). length qs ≡ n) (takes_first threaded q) (in_first q t ∷ qpus) (if takes_other threaded q then in_other q t ∷ qpus else q ∷ started_in threaded t qpus)
    refl
    (chosen (λ (qs : List Qpu). length qs ≡ n) (takes_other threaded q) (in_other q t ∷ qpus) (q ∷ started_in threaded t qpus) refl (ap suc (started_long threaded t qpus)))

pub launched_long : (j : ℕ) (launch : Launch) (qpus : List Qpu) → length (after_launch j launch qpus) ≡ length qpus
launched_long j launch qpus = started_long launch.threaded (thread_of j launch) qpus
