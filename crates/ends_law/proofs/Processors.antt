-- What is left of a processor for the jobs that are counted: after a step of its thread, after one of a texture unit, and where a program
-- starts in it. What it does for other jobs changes nothing of that.
use Rattle.std.proofs.Common.{◌≡◌, ◌≢◌, ◌≤◌, ℕ, ◌+◌, ◌-◌, ◌==◌, Bool, true, false, IsTrue, if◌then◌else◌, List, [], ◌∷◌, ◌++◌, Option, Some, None, refl, sym, ◌∙◌, ap, subst, arith}
use Rattle.std.proofs.{lemmas.Grind.common_steps, lemmas.Bool.false≢true, lemmas.Bool.Decides.nat_tests, lemmas.List.Sums.sum_by-cons, lemmas.List.Sums.sum_by_push}
use Rattle.std.specs.Int.{from_le_bytes, w64}
use Rattle.std.specs.Prelude.{drop, is_some, option_map, unwrap_or}
use Rattle.machine_plan.specs.{declared.who.Who.Who, Memory.bytes_at, Regions.Rights}
use Rattle.apart_law.proofs.Places.{chosen}
use Rattle.qpu_law.proofs.Going.{is_went}
use Rattle.qpu_machine.specs.declared.state.Fate.TheVariants.{GoesOn, Switches, Ends}
use Rattle.qpu_machine.specs.declared.state.{Asked.Asked, Fate.Fate, Qpu.Qpu, Request.Request, Thread.Thread}
use Rattle.qpu_machine.specs.Qpu.{active_of, left_by, gives_way, woken_slot, queue_with, after_turn, went, oldest, queue_of, with_result, after_drop, result_given, after_service, takes_first, takes_other, in_first, in_other, started_in}
use Rattle.qpu_machine.specs.Step.{ThreadTurn, thread_plan}
use Rattle.ends_law.specs.Left.{EachWithin, ThreadAt, ThreadLeft, SlotLeft, request_count, QpuLeft}
use Rattle.promises.specs.Steps.{has_loop, one_if}
use Rattle.ends_law.proofs.{Plans.AnyLook, Plans.AnyAccess, Plans.Comes, Plans.weaker, Plans.keeps_both, Shares.more_within, Threads.ThreadGoes, Threads.thread_comes, Threads.thread_goes}

-- A thread that is woken, gets a result or finds other registers is where it was.
unfoldable pub still_at : (r : Rights) (K : List ℕ → Type 0) (S : List ℕ → Type 0) (t : Thread) (fresh : Bool) (a b : List (List ℕ)) (results0 results1 : List (Option (List ℕ))) → ThreadAt r K S t
    → ThreadAt r K S (record t { fresh = fresh; a = a; b = b; results0 = record { items = results0 }; results1 = record { items = results1 } })
still_at r K S t fresh a b results0 results1 there =
    let at = there.at in
    record {
      home = there.home;
      so = there.so;
      stands = there.stands;
      index = there.index;
      at = record { place = at.place; inside = at.inside; threaded = at.threaded; mark1 = at.mark1; mark2 = at.mark2; mark3 = at.mark3 };
    }

pub still_left : (r : Rights) (K : List ℕ → Type 0) (n : ℕ) (t : Thread) (fresh : Bool) (a b : List (List ℕ)) (results0 results1 : List (Option (List ℕ))) → ThreadLeft r K n t
    → ThreadLeft r K n (record t { fresh = fresh; a = a; b = b; results0 = record { items = results0 }; results1 = record { items = results1 } })
unfolding still_at
still_left r K n t fresh a b results0 results1 left = record { there = still_at r K (λ code. has_loop code ≡ false) t fresh a b results0 results1 left.there; left = left.left }

woken_left : (rights : ℕ → Rights) (K : List ℕ → Type 0) (mine : ℕ → Bool) (n : ℕ) (over : Bool) (slot : Option Thread) → SlotLeft rights K mine n slot → SlotLeft rights K mine n (woken_slot over slot)
woken_left rights K mine n false slot left = left
woken_left rights K mine n true None left = tt
woken_left rights K mine n true (Some t) left = λ own. still_left (rights t.job) K n t true t.a t.b t.results0.items t.results1.items (left own)

got_left : (rights : ℕ → Rights) (K : List ℕ → Type 0) (mine : ℕ → Bool) (n tmu : ℕ) (row : Option (List ℕ)) (slot : Option Thread) → SlotLeft rights K mine n slot → SlotLeft rights K mine n (option_map (with_result tmu row) slot)
got_left rights K mine n tmu row None left = tt
got_left rights K mine n tmu row (Some t) left =
    λ own. still_left (rights t.job) K n t t.fresh t.a t.b (if tmu == 0 then t.results0.items ++ row ∷ [] else t.results0.items) (if tmu == 0 then t.results1.items else t.results1.items ++ row ∷ []) (left own)

-- Its job stays.
thread_job : (t : Thread) (who : Who) (words m : List ℕ) → Comes who (λ turn. turn.thread.job ≡ t.job) (thread_plan t words) m
thread_job t who words m =
    let w : ℕ = from_le_bytes w64 (bytes_at m t.place 8) in
    thread_comes who (λ turn. turn.thread.job ≡ t.job) w t words m refl (λ u uniforms. (is_went w u uniforms words t).job)

-- what is asked of a texture unit for this job, where that is counted
abbrev pub asked_one : (ℕ → Bool) → ℕ → Option Asked → ℕ
asked_one mine job None = 0
asked_one mine job (Some asked) = one_if (mine job)

-- What an instruction leaves of a thread takes fewer steps, where its job is counted, and else as many.
pub record CountedGoes (rights : ℕ → Rights) (K : List ℕ → Type 0) (mine : ℕ → Bool) (n : ℕ) (t : Thread) (turn : ThreadTurn) : Type 0 where
  pub rest : ℕ
  pub left : turn.leaves.fate ≢ Ends → IsTrue (mine turn.thread.job) → ThreadLeft (rights turn.thread.job) K rest turn.thread
  pub less : rest + one_if (mine t.job) + asked_one mine t.job turn.leaves.asked ≤ n

asks_own : (mine : ℕ → Bool) (job : ℕ) (b : Bool) (asked : Option Asked) → mine job ≡ b → asked_one mine job asked ≡ (if b then one_if (is_some asked) else 0)
asks_own mine job true None is = refl
asks_own mine job true (Some asked) is = ap one_if is
asks_own mine job false None is = refl
asks_own mine job false (Some asked) is = ap one_if is

thread_by : (rights : ℕ → Rights) (K : List ℕ → Type 0) (mine : ℕ → Bool) (n : ℕ) (t : Thread) (who : Who) (words m : List ℕ) (b : Bool) → mine t.job ≡ b → K m → (IsTrue (mine t.job) → ThreadLeft (rights t.job) K n t)
    → Comes who (CountedGoes rights K mine n t) (thread_plan t words) m
thread_by rights K mine n t who words m true is here left =
    let own : one_if (mine t.job) ≡ 1 = ap one_if is in
    let Goes = ThreadGoes (rights t.job) K n in
    weaker who (λ turn. Goes turn × (turn.thread.job ≡ t.job)) (CountedGoes rights K mine n t)
    (λ turn both.
    let goes : Goes turn = both.0 in
    let less = goes.less in
    let asks = asks_own mine t.job true turn.leaves.asked is in
    record { rest = goes.rest; left = λ lives counted. subst (λ j. ThreadLeft (rights j) K goes.rest turn.thread) (sym both.1) (goes.left lives); less = omega (arith, own, asks, less) })
    (thread_plan t words) m (keeps_both who AnyLook AnyAccess Goes (λ turn. turn.thread.job ≡ t.job) (thread_plan t words) m (thread_goes (rights t.job) K n t who words m here (left is)) (thread_job t who words m))
thread_by rights K mine n t who words m false is here left =
    let none : one_if (mine t.job) ≡ 0 = ap one_if is in
    weaker who (λ turn. turn.thread.job ≡ t.job) (CountedGoes rights K mine n t)
    (λ turn stays.
    let asks = asks_own mine t.job false turn.leaves.asked is in
    record { rest = n; left = λ lives counted. absurd (false≢true (sym (ap mine stays ∙ is) ∙ counted)); less = omega (arith, none, asks) })
    (thread_plan t words) m (thread_job t who words m)

pub thread_counted : (rights : ℕ → Rights) (K : List ℕ → Type 0) (mine : ℕ → Bool) (n : ℕ) (t : Thread) (who : Who) (words m : List ℕ) → K m → (IsTrue (mine t.job) → ThreadLeft (rights t.job) K n t)
    → Comes who (CountedGoes rights K mine n t) (thread_plan t words) m
thread_counted rights K mine n t who words m here left = thread_by rights K mine n t who words m (mine t.job) refl here left

-- What was asked for makes one of the queues one longer.
append_one : (mine : ℕ → Bool) (requests : List Request) (request : Request) → request_count mine (requests ++ request ∷ []) ≡ request_count mine requests + one_if (mine request.job)
append_one mine requests request = sum_by_push (λ r. if mine r.job then 1 else 0) requests request

one_by : (mine : ℕ → Bool) (first second : Bool) (requests others : List Request) (request : Request) → (first ≡ true → second ≡ false)
    → request_count mine (if first then requests ++ request ∷ [] else requests) + request_count mine (if second then others ++ request ∷ [] else others) ≤ request_count mine requests + request_count mine others + one_if (mine request.job)
one_by mine true true requests others request other = absurd (let no : true ≡ false = other refl in cc)
one_by mine true false requests others request other = let more = append_one mine requests request in omega (arith, more)
one_by mine false true requests others request other = let more = append_one mine others request in omega (arith, more)
one_by mine false false requests others request other = omega arith

queues_with : (mine : ℕ → Bool) (second : Bool) (job : ℕ) (asked : Option Asked) (requests others : List Request)
    → request_count mine (queue_with 0 second job asked requests) + request_count mine (queue_with 1 second job asked others) ≤ request_count mine requests + request_count mine others + asked_one mine job asked
queues_with mine second job None requests others = omega arith
queues_with mine second job (Some asked) requests others =
    one_by mine (asked.tmu == 0) (asked.tmu == 1) requests others (record { second = second; job = job; ask = asked.ask }) (λ first. grind (arith, common_steps, nat_tests, first))

-- A step of the active thread.
slot_left : (rights : ℕ → Rights) (K : List ℕ → Type 0) (mine : ℕ → Bool) (n : ℕ) (t : Thread) (fate : Fate) → (fate ≢ Ends → IsTrue (mine t.job) → ThreadLeft (rights t.job) K n t) → SlotLeft rights K mine n (left_by fate t)
slot_left rights K mine n t GoesOn left = left (λ e. cc)
slot_left rights K mine n t Switches left = left (λ e. cc)
slot_left rights K mine n t Ends left = tt

settled_left : (rights : ℕ → Rights) (K : List ℕ → Type 0) (mine : ℕ → Bool) (k n rest m : ℕ) (q : Qpu) (second : Bool) (job : ℕ) (own : Option Thread) (over : Bool) (asked : Option Asked)
    → (left : QpuLeft rights K mine k n (record q { second = second })) → SlotLeft rights K mine rest own → rest + n + asked_one mine job asked ≤ (if second then left.others else left.firsts) + m
    → QpuLeft rights K mine k m (after_turn (record q { second = second }) job own over asked)
unfolding after_turn
settled_left rights K mine k n rest m q true job own over asked left slot less =
    let queues = queues_with mine true job asked q.queue0.items q.queue1.items in
    let sum = left.sum in
    record { firsts = left.firsts; others = rest; first = woken_left rights K mine left.firsts over q.first left.first; other = slot; sum = omega (arith, queues, sum, less) }
settled_left rights K mine k n rest m q false job own over asked left slot less =
    let queues = queues_with mine false job asked q.queue0.items q.queue1.items in
    let sum = left.sum in
    record { firsts = rest; others = left.others; first = slot; other = woken_left rights K mine left.others over q.other left.other; sum = omega (arith, queues, sum, less) }

active_by : (rights : ℕ → Rights) (K : List ℕ → Type 0) (mine : ℕ → Bool) (second : Bool) (firsts others : ℕ) (first other : Option Thread) → SlotLeft rights K mine firsts first → SlotLeft rights K mine others other
    → SlotLeft rights K mine (if second then others else firsts) (if second then other else first)
active_by rights K mine true firsts others first other one two = two
active_by rights K mine false firsts others first other one two = one

pub active_left : (rights : ℕ → Rights) (K : List ℕ → Type 0) (mine : ℕ → Bool) (k n : ℕ) (q : Qpu) (left : QpuLeft rights K mine k n q) → SlotLeft rights K mine (if q.second then left.others else left.firsts) (active_of q)
active_left rights K mine k n q left = active_by rights K mine q.second left.firsts left.others q.first q.other left.first left.other

-- what takes at most so many steps less
pub record QpuLess (rights : ℕ → Rights) (K : List ℕ → Type 0) (mine : ℕ → Bool) (k n cost : ℕ) (q : Qpu) : Type 0 where
  pub rest : ℕ
  pub left : QpuLeft rights K mine k rest q
  pub less : rest + cost ≤ n

share_within : (second : Bool) (firsts others queued n : ℕ) → firsts + others + queued ≤ n → (if second then others else firsts) ≤ n
share_within true firsts others queued n sum = omega (arith, sum)
share_within false firsts others queued n sum = omega (arith, sum)

pub went_left : (rights : ℕ → Rights) (K : List ℕ → Type 0) (mine : ℕ → Bool) (k n : ℕ) (q : Qpu) (t : Thread) (turn : ThreadTurn) (left : QpuLeft rights K mine k n q)
    → CountedGoes rights K mine (if q.second then left.others else left.firsts) t turn → QpuLess rights K mine k n (one_if (mine t.job)) (went q t turn)
went_left rights K mine k n q t turn left goes =
    let share : ℕ = if q.second then left.others else left.firsts in
    let cost : ℕ = one_if (mine t.job) in
    let within : share ≤ n = share_within q.second left.firsts left.others (request_count mine q.queue0.items + request_count mine q.queue1.items) n left.sum in
    let less : goes.rest + cost + asked_one mine t.job turn.leaves.asked ≤ share = goes.less in
    record {
      rest = n - cost;
      left = settled_left rights K mine k n goes.rest (n - cost) q q.second t.job (left_by turn.leaves.fate turn.thread) (gives_way turn.leaves.fate) turn.leaves.asked left
          (slot_left rights K mine goes.rest turn.thread turn.leaves.fate goes.left) (omega (arith, less, within));
      less = omega (arith, less, within);
    }

-- A step of a texture unit.
drop_one : (mine : ℕ → Bool) (requests : List Request) (request : Request) → oldest requests ≡ Some request → request_count mine (drop 1 requests) + one_if (mine request.job) ≡ request_count mine requests
drop_one mine [] request is = absurd cc
drop_one mine (one ∷ requests) request is =
    let e : one ≡ request = ap (λ (o : Option Request). unwrap_or o request) is in
    let cost : one_if (mine one.job) ≡ one_if (mine request.job) = ap (λ (r : Request). one_if (mine r.job)) e in
    let counts : request_count mine (one ∷ requests) ≡ one_if (mine one.job) + request_count mine requests = sum_by-cons (λ r. if mine r.job then 1 else 0) one requests in
    omega (arith, cost, counts)

dropped_sum : (mine : ℕ → Bool) (first : Bool) (requests others : List Request) (request : Request) → oldest (if first then requests else others) ≡ Some request
    → request_count mine (if first then drop 1 requests else requests) + request_count mine (if first then others else drop 1 others) + one_if (mine request.job) ≡ request_count mine requests + request_count mine others
dropped_sum mine true requests others request is = let one = drop_one mine requests request is in omega (arith, one)
dropped_sum mine false requests others request is = let one = drop_one mine others request is in omega (arith, one)

pub served_left : (rights : ℕ → Rights) (K : List ℕ → Type 0) (mine : ℕ → Bool) (k n tmu : ℕ) (q : Qpu) (request : Request) (row : Option (List ℕ)) → QpuLeft rights K mine k n q → oldest (queue_of q tmu) ≡ Some request
    → QpuLess rights K mine k n (one_if (mine request.job)) (after_service q tmu request row)
unfolding after_drop result_given
served_left rights K mine k n tmu q request row left is =
    let sum = left.sum in
    let queues = dropped_sum mine (tmu == 0) q.queue0.items q.queue1.items request is in
    record {
      rest = n - one_if (mine request.job);
      left = record {
        firsts = left.firsts;
        others = left.others;
        first = chosen (SlotLeft rights K mine left.firsts) request.second q.first (option_map (with_result tmu row) q.first) left.first (got_left rights K mine left.firsts tmu row q.first left.first);
        other = chosen (SlotLeft rights K mine left.others) request.second (option_map (with_result tmu row) q.other) q.other (got_left rights K mine left.others tmu row q.other left.other) left.other;
        sum = omega (arith, sum, queues);
      };
      less = omega (arith, sum, queues);
    }

-- Where a program starts that takes at most w steps if its job is counted.
pub started_left : (rights : ℕ → Rights) (K : List ℕ → Type 0) (mine : ℕ → Bool) (k n w : ℕ) (threaded : Bool) (t : Thread) (qpus : List Qpu) → (IsTrue (mine t.job) → ThreadLeft (rights t.job) K w t) → EachWithin (QpuLeft rights K mine) k n qpus
    → EachWithin (QpuLeft rights K mine) k (n + w) (started_in threaded t qpus)
unfolding in_first in_other
started_left rights K mine k n w threaded t [] thread all = tt
started_left rights K mine k n w threaded t (q ∷ qpus) thread all =
    let All = EachWithin (QpuLeft rights K mine) k (n + w) in
    let share : ℕ = all.0 in
    let left : QpuLeft rights K mine k share q = all.1 in
    let inside : share ≤ n = all.2 in
    let sum = left.sum in
    let rest = more_within (QpuLeft rights K mine) (k + 1) (n - share) (n + w - (share + w)) qpus (omega arith) all.3 in
    let e : n - share + w ≡ n + w - share = omega (arith, inside) in
    chosen All (takes_first threaded q) (in_first q t ∷ qpus) (if takes_other threaded q then in_other q t ∷ qpus else q ∷ started_in threaded t qpus)
    (share + w, record { firsts = w; others = left.others; first = thread; other = left.other; sum = omega (arith, sum) }, omega (arith, inside), rest)
    (chosen All (takes_other threaded q) (in_other q t ∷ qpus) (q ∷ started_in threaded t qpus)
    (share + w, record { firsts = left.firsts; others = w; first = left.first; other = thread; sum = omega (arith, sum) }, omega (arith, inside), rest)
    (share, left, omega (arith, inside), subst (λ m. EachWithin (QpuLeft rights K mine) (k + 1) m (started_in threaded t qpus)) e (started_left rights K mine (k + 1) (n - share) w threaded t qpus thread all.3)))
