-- No step of a strict job is forbidden.
use Rattle.std.proofs.Common.{◌≡◌, ◌≤◌, ◌<◌, inl, inr, ℕ, ◌+◌, ◌-◌, ◌==◌, ◌&&◌, ◌||◌, Bool, true, false, nat_lt, nat_le, List, length, Option, Some, None, IfSome, if◌then◌else◌, refl, sym, ◌∙◌, ap, subst, arith}
use Rattle.std.proofs.lemmas.Bool.{cases_lt, eq-eqb, le-leb, or_cases, or_from, or_parts, true≢false}
use Rattle.std.proofs.lemmas.Bool.Decides.{nat_tests}
use Rattle.std.specs.Int.{from_le_bytes, w64}
use Rattle.machine_plan.specs.Memory.{bytes_at}
use Rattle.qpu_isa.specs.Terms.{is_end, writes_s, loads}
use Rattle.qpu_isa.specs.Setups.{setups_kept}
use Rattle.shader_flow.specs.{Flow.word, Flow.end_of, Flow.checked_of, Pending.pending_of, Pending.takes}
use Rattle.qpu_machine.specs.{declared.state.Qpu.Qpu, declared.state.Request.Request, declared.state.Thread.Thread, Bounds.finished0, Bounds.finished1}
use Rattle.qpu_machine.specs.declared.state.Fate.TheVariants.{Ends, Switches}
use Rattle.qpu_machine.specs.{Qpu.active_of, Qpu.queue_count, Wild.takes_one, Writes.fate_of}
use Rattle.machine.specs.{State.State, Step.Event}
use Rattle.qpu_law.specs.Home.{Home, HasNoFault, IsAt}
use Rattle.qpu_law.proofs.Going.{behind, in_checked, not_end, takes_same}
use Rattle.promises.specs.{Steps.one_if, Finished.count_unloaded}
use Rattle.strict_law.specs.Order.{Orders}
use Rattle.strict_rules.specs.{Words.reads_address, Words.uses_vpm, Words.is_coupled, Words.add_couples, Words.mul_couples, Words.loads_result, Words.coupled_of}
use Rattle.strict_rules.specs.Queue as queue
use Rattle.strict_rules.specs.Rules.{e2, e5, e6, e7, loads_none}
use Rattle.strict_law.specs.{Strict.IsStrict, Known.Finds, Known.ThreadStrict, Known.SlotStrict, Known.QpuStrict, Known.KeepsNone}
use Rattle.strict_law.specs.Forbidden.{Executes, keeps_words, has_words, unloaded0, unloaded1, loads_nothing, sends, leaves_requests, reads, touches_vertices, is_last, uses_closed, is_peripheral, peripherals, IsForbidden, SwitchesWithWords, RestsWithWords, EndsWithWords, LoadsNothing, LacksRoom, LeavesRequests, UsesClosed, UsesTwo, TakesMutex}
use Rattle.strict_rules.proofs.Rooms.{room_for}
use Rattle.served_law.specs.Known.{AreBeside}
use Rattle.served_law.proofs.{Shaders.next_queue, Shaders.few_requests, Beside.beside_turn, Room.both_queued, Room.most_is}
use Rattle.strict_law.proofs.Shaders.{StrictAt, strict_here, kept_long}
use Rattle.served_law.proofs.Marks.{end_before, at_end, at_switch}
use Rattle.strict_law.proofs.{Threads.none_left, Threads.reads_word, Threads.switch_none}
use Rattle.strict_law.proofs.{Watch.each_item, Processors.EachStrict, Processors.active_strict}
use Rattle.strict_law.proofs.Roles.{vertices_are}

-- What is known of the thread before the instruction at n.
pub record Before (code : List ℕ) (n queued0 queued1 : ℕ) (t : Thread) : Type 0 where
  pub sound : HasNoFault code
  pub strict : IsStrict code
  pub inside : n < checked_of code
  pub now : StrictAt code n
  pub pending0 : length t.setups0.items ≡ pending_of code 0 n
  pub pending1 : length t.setups1.items ≡ pending_of code 1 n
  pub queue0 : queued0 + length t.results0.items ≡ length (queue.queue_of code 0 n)
  pub queue1 : queued1 + length t.results1.items ≡ length (queue.queue_of code 1 n)

before : (IsOf : ℕ → Home → Type 0) (m : List ℕ) (queued0 queued1 old0 old1 : ℕ) (t : Thread) → Finds IsOf m → (left : ThreadStrict IsOf queued0 queued1 old0 old1 t) → Before left.home.code left.index queued0 queued1 t
before IsOf m queued0 queued1 old0 old1 t here left =
    let home = (here t.job left.home left.stands).is in
    let inside = in_checked left.home.code left.index home.sound left.at.inside in
    record {
      sound = home.sound;
      strict = left.strict;
      inside = inside;
      now = strict_here left.home.code left.strict left.index inside;
      pending0 = left.pending.tmu0;
      pending1 = left.pending.tmu1;
      queue0 = left.tmu0;
      queue1 = left.tmu1;
    }

-- Set-up words.
no_words : (code : List ℕ) (n queued0 queued1 : ℕ) (t : Thread) → Before code n queued0 queued1 t → queue.keeps_words code (n + 1) ≡ false → keeps_words t (word code n) ≡ false
unfolding keeps_words queue.keeps_words
no_words code n queued0 queued1 t known none =
    let both = or_parts (nat_lt 0 (pending_of code 0 (n + 1))) (nat_lt 0 (pending_of code 1 (n + 1))) none in
    or_from (nat_lt 0 (length (setups_kept (word code n) 0 0 t.setups0.items))) (nat_lt 0 (length (setups_kept (word code n) 1 0 t.setups1.items)))
    (ap (λ k. nat_lt 0 k) (kept_long code n 0 0 t.setups0.items known.sound known.inside known.pending0) ∙ both.0)
    (ap (λ k. nat_lt 0 k) (kept_long code n 1 0 t.setups1.items known.sound known.inside known.pending1) ∙ both.1)

end_none : (code : List ℕ) (n : ℕ) → HasNoFault code → IsStrict code → n ≡ end_of code + 2 → queue.keeps_words code (n + 1) ≡ false
unfolding e2
end_none code n sound strict last =
    let e : n + 1 ≡ end_of code + 3 = omega (arith, last) in
    let off = (strict_here code strict (end_of code) (in_checked code (end_of code) sound (omega arith))).no2 in
    ap (queue.keeps_words code) e ∙ behind (end_of code == end_of code) (queue.keeps_words code (end_of code + 3)) (eq-eqb (end_of code) (end_of code) refl) off

-- Requests.
none_by : (load : Bool) (n count : ℕ) → n ≡ count → (load && count == 0) ≡ false → (load && n == 0) ≡ false
none_by load n count is off = ap (λ k. load && k == 0) is ∙ off

has_some : (code : List ℕ) (tmu n count : ℕ) → count ≡ length (queue.queue_of code tmu n) → loads_none code tmu n ≡ false → (loads (word code n) tmu && count == 0) ≡ false
unfolding loads_none
has_some code tmu n count is off = none_by (loads (word code n) tmu) count (length (queue.queue_of code tmu n)) is off

count_left : (code : List ℕ) (tmu n count : ℕ) → n < checked_of code → count ≡ length (queue.queue_of code tmu n) → length (queue.queue_of code tmu (n + 1)) ≡ 0
    → nat_lt 0 ((count - one_if (loads (word code n) tmu)) + one_if (writes_s (word code n) tmu)) ≡ false
count_left code tmu n count inside is none =
    ap (λ k. nat_lt 0 ((k - one_if (loads (word code n) tmu)) + one_if (writes_s (word code n) tmu))) is ∙ ap (λ k. nat_lt 0 k) (sym (next_queue code tmu n inside) ∙ none)

-- The two threads of a processor together have room.
single_room : (own : ℕ) (threaded : Bool) → own < (if threaded then 2 else 4) → own < 4
single_room own true room = omega (arith, room)
single_room own false room = room

below_not : (most n : ℕ) → n < most → nat_le most n ≡ false
below_not most n below = grind (arith, nat_tests, below)

thread_few : (IsOf : ℕ → Home → Type 0) (m : List ℕ) (queued0 queued1 old0 old1 : ℕ) (t : Thread) → Finds IsOf m → ThreadStrict IsOf queued0 queued1 old0 old1 t
    → (queued0 + length t.results0.items) + (queued1 + length t.results1.items) ≤ (if t.threaded then 2 else 4)
unfolding queue.requests_of
thread_few IsOf m queued0 queued1 old0 old1 t here left =
    let code = left.home.code in
    let n : ℕ = left.index in
    let known = before IsOf m queued0 queued1 old0 old1 t here left in
    let inside = known.inside in
    let few = few_requests code known.sound (λ i here. (strict_here code known.strict i here).requests.room) n (omega (arith, inside)) in
    let most = most_is code t.threaded left.at.threaded in
    let first = known.queue0 in
    let second = known.queue1 in
    omega (arith, few, most, first, second)

pair_room : (IsOf : ℕ → Home → Type 0) (m : List ℕ) (own queued0 queued1 old0 old1 : ℕ) (t : Thread) (rest : Option Thread) → Finds IsOf m → own < (if t.threaded then 2 else 4) → AreBeside (Some t) rest → SlotStrict IsOf queued0 queued1 old0 old1 rest
    → own + ((queued0 + finished0 rest) + (queued1 + finished1 rest)) < 4
pair_room IsOf m own queued0 queued1 old0 old1 t None here room beside none =
    let first = none.0 in
    let second = none.1 in
    let below : own < 4 = single_room own t.threaded room in
    omega (arith, first, second, below)
pair_room IsOf m own queued0 queued1 old0 old1 t (Some o) here room beside left =
    let mine : own < 2 = subst (λ b. own < (if b then 2 else 4)) beside.0 room in
    let theirs : (queued0 + length o.results0.items) + (queued1 + length o.results1.items) ≤ 2 =
    subst (λ b. (queued0 + length o.results0.items) + (queued1 + length o.results1.items) ≤ (if b then 2 else 4)) beside.1 (thread_few IsOf m queued0 queued1 old0 old1 o here left) in
    omega (arith, mine, theirs)

has_room_by : (IsOf : ℕ → Home → Type 0) (m : List ℕ) (second : Bool) (queue0 queue1 : List Request) (first0 first1 other0 other1 : ℕ) (first other : Option Thread) (t : Thread) → Finds IsOf m
    → (if second then other else first) ≡ Some t → AreBeside first other → SlotStrict IsOf (queue_count false queue0) (queue_count false queue1) first0 first1 first → SlotStrict IsOf (queue_count true queue0) (queue_count true queue1) other0 other1 other
    → (queue_count second queue0 + length t.results0.items) + (queue_count second queue1 + length t.results1.items) < (if t.threaded then 2 else 4)
    → (length queue0 + length queue1) + ((finished0 first + finished1 first) + (finished0 other + finished1 other)) < 4
has_room_by IsOf m true queue0 queue1 first0 first1 other0 other1 first other t here active beside one two room =
    let pair = pair_room IsOf m ((queue_count true queue0 + length t.results0.items) + (queue_count true queue1 + length t.results1.items)) (queue_count false queue0) (queue_count false queue1) first0 first1 t first here room
    (subst (λ (slot : Option Thread). AreBeside slot first) active (beside_turn first other beside)) one in
    let results0 = ap (λ (slot : Option Thread). finished0 slot) active in
    let results1 = ap (λ (slot : Option Thread). finished1 slot) active in
    let all0 = both_queued queue0 in
    let all1 = both_queued queue1 in
    omega (arith, pair, results0, results1, all0, all1)
has_room_by IsOf m false queue0 queue1 first0 first1 other0 other1 first other t here active beside one two room =
    let pair = pair_room IsOf m ((queue_count false queue0 + length t.results0.items) + (queue_count false queue1 + length t.results1.items)) (queue_count true queue0) (queue_count true queue1) other0 other1 t other here room
    (subst (λ (slot : Option Thread). AreBeside slot other) active beside) two in
    let results0 = ap (λ (slot : Option Thread). finished0 slot) active in
    let results1 = ap (λ (slot : Option Thread). finished1 slot) active in
    let all0 = both_queued queue0 in
    let all1 = both_queued queue1 in
    omega (arith, pair, results0, results1, all0, all1)

-- The last three instructions.
last_by : (h : Home) (n : ℕ) (t : Thread) → IsAt h n t → is_last t (word h.code n) ≡ true → end_of h.code ≤ n
unfolding is_last
last_by h n t at last =
    elim (or_cases (is_end (word h.code n)) (is_end t.last1.word || is_end t.last2.word) last) [
      | inl here ↦
          elim (cases_lt n (end_of h.code)) [
            | inl early ↦ absurd (true≢false (sym here ∙ not_end h.code n early))
            | inr late ↦ late
          ]
      | inr behind ↦
          elim (or_cases (is_end t.last1.word) (is_end t.last2.word) behind) [
            | inl one ↦ (let e = end_before h.place h.code n 1 t.last1 at.mark1 one in omega (arith, e))
            | inr two ↦ (let e = end_before h.place h.code n 2 t.last2 at.mark2 two in omega (arith, e))
          ]
    ]

reads_is : (w address : ℕ) → reads w address ≡ reads_address w address
unfolding reads reads_address
reads_is w address = refl

closed_off : (code : List ℕ) (n queued0 queued1 : ℕ) (t : Thread) → Before code n queued0 queued1 t → end_of code ≤ n → uses_closed t (word code n) ≡ false
unfolding uses_closed e5
closed_off code n queued0 queued1 t known late =
    let w = word code n in
    let off = or_parts (takes code n) (reads_address w 35 || uses_vpm w) (behind (nat_le (end_of code) n) (takes code n || (reads_address w 35 || uses_vpm w)) (le-leb (end_of code) n late) known.now.no5) in
    let more = or_parts (reads_address w 35) (uses_vpm w) off.1 in
    or_from (takes_one t w) (reads w 35 || touches_vertices w)
    (takes_same code n t known.inside (record { tmu0 = known.pending0; tmu1 = known.pending1 }) ∙ off.0)
    (or_from (reads w 35) (touches_vertices w) (reads_is w 35 ∙ more.0) (vertices_are w ∙ more.1))

-- Peripherals.
peripherals_are : (w : ℕ) → peripherals w ≡ coupled_of w
unfolding peripherals coupled_of add_couples mul_couples loads_result loads is_peripheral is_coupled reads reads_address
peripherals_are w = refl

two_off : (code : List ℕ) (n : ℕ) → e6 code n ≡ false → nat_lt 1 (peripherals (word code n)) ≡ false
unfolding e6
two_off code n off = ap (λ k. nat_lt 1 k) (peripherals_are (word code n)) ∙ off

mutex_off : (code : List ℕ) (n : ℕ) → e7 code n ≡ false → reads (word code n) 51 ≡ false
unfolding e7
mutex_off code n off = reads_is (word code n) 51 ∙ off

-- Each case, by the thread that steps.
pub record Steps (IsOf : ℕ → Home → Type 0) (order0 order1 : List Bool) (m : List ℕ) (q : Qpu) (t : Thread) (w : ℕ) : Type 0 where
  pub here : Finds IsOf m
  pub active : active_of q ≡ Some t
  pub processor : QpuStrict IsOf order0 order1 q
  pub thread : ThreadStrict IsOf (queue_count q.second q.queue0.items) (queue_count q.second q.queue1.items) (if q.second then processor.other0 else processor.first0) (if q.second then processor.other1 else processor.first1) t
  pub is : w ≡ word thread.home.code thread.index

instruction_is : (IsOf : ℕ → Home → Type 0) (m : List ℕ) (queued0 queued1 old0 old1 : ℕ) (t : Thread) (w : ℕ) → Finds IsOf m → (left : ThreadStrict IsOf queued0 queued1 old0 old1 t) → w ≡ from_le_bytes w64 (bytes_at m t.place 8)
    → w ≡ word left.home.code left.index
instruction_is IsOf m queued0 queued1 old0 old1 t w here left is = is ∙ reads_word IsOf queued0 queued1 old0 old1 t m here left

pub known : (IsOf : ℕ → Home → Type 0) (orders : Orders) (s : State) (event : Event) (q : Qpu) (t : Thread) (w : ℕ) → Finds IsOf s.memory → EachStrict IsOf orders 0 s.units.qpus → (one : Executes s event q t w)
    → Steps IsOf (orders one.k 0) (orders one.k 1) s.memory q t w
known IsOf orders s event q t w here all one =
    let order0 : List Bool = orders one.k 0 in
    let order1 : List Bool = orders one.k 1 in
    let processor : QpuStrict IsOf order0 order1 q = subst (λ (slot : Option Qpu). IfSome slot (QpuStrict IsOf order0 order1)) one.is (each_item (λ i p. QpuStrict IsOf (orders i 0) (orders i 1) p) 0 one.k one.k s.units.qpus (omega arith) all) in
    let old0 : ℕ = if q.second then processor.other0 else processor.first0 in
    let old1 : ℕ = if q.second then processor.other1 else processor.first1 in
    let thread : ThreadStrict IsOf (queue_count q.second q.queue0.items) (queue_count q.second q.queue1.items) old0 old1 t =
    subst (λ (slot : Option Thread). SlotStrict IsOf (queue_count q.second q.queue0.items) (queue_count q.second q.queue1.items) old0 old1 slot) one.active (active_strict IsOf order0 order1 q processor) in
    record {
      here = here;
      active = one.active;
      processor = processor;
      thread = thread;
      is = instruction_is IsOf s.memory (queue_count q.second q.queue0.items) (queue_count q.second q.queue1.items) old0 old1 t w here thread one.next;
    }

module _ (IsOf : ℕ → Home → Type 0) (order0 order1 : List Bool) (m : List ℕ) (q : Qpu) (t : Thread) (w : ℕ) (one : Steps IsOf order0 order1 m q t w) where
  pub facts : Before one.thread.home.code one.thread.index (queue_count q.second q.queue0.items) (queue_count q.second q.queue1.items) t
  facts = before IsOf m (queue_count q.second q.queue0.items) (queue_count q.second q.queue1.items) (if q.second then one.processor.other0 else one.processor.first0) (if q.second then one.processor.other1 else one.processor.first1) t one.here one.thread

  no_switch : fate_of t ≡ Switches → keeps_words t w ≡ false
  no_switch over =
      let switch = at_switch one.thread.home one.thread.index t one.thread.at over in
      ap (keeps_words t) one.is ∙ no_words one.thread.home.code one.thread.index (queue_count q.second q.queue0.items) (queue_count q.second q.queue1.items) t facts
      (switch_none one.thread.home.code one.thread.index facts.strict facts.inside switch.0 switch.1)

  no_end : fate_of t ≡ Ends → keeps_words t w ≡ false
  no_end over =
      ap (keeps_words t) one.is ∙ no_words one.thread.home.code one.thread.index (queue_count q.second q.queue0.items) (queue_count q.second q.queue1.items) t facts
      (end_none one.thread.home.code one.thread.index facts.sound facts.strict (at_end one.thread.home one.thread.index t one.thread.at over))

  no_load : loads_nothing q t w ≡ false
  unfolding loads_nothing unloaded0 unloaded1
  no_load =
      let code = one.thread.home.code in
      let n : ℕ = one.thread.index in
      let count0 : ℕ = queue_count q.second q.queue0.items + length t.results0.items in
      let count1 : ℕ = queue_count q.second q.queue1.items + length t.results1.items in
      ap (λ v. (loads v 0 && count0 == 0) || (loads v 1 && count1 == 0)) one.is
      ∙ or_from (loads (word code n) 0 && count0 == 0) (loads (word code n) 1 && count1 == 0) (has_some code 0 n count0 facts.queue0 facts.now.requests.none0) (has_some code 1 n count1 facts.queue1 facts.now.requests.none1)

  no_room : sends w ≡ true → nat_le 4 (count_unloaded q) ≡ false
  unfolding sends count_unloaded queue.requests_of
  no_room sent =
      let code = one.thread.home.code in
      let n : ℕ = one.thread.index in
      let most = most_is code t.threaded one.thread.at.threaded in
      let first = facts.queue0 in
      let second = facts.queue1 in
      let room : length (queue.queue_of code 0 n) + length (queue.queue_of code 1 n) < queue.most_requests code = room_for code n facts.now.requests.room (ap (λ v. writes_s v 0 || writes_s v 1) (sym one.is) ∙ sent) in
      let below = has_room_by IsOf m q.second q.queue0.items q.queue1.items one.processor.first0 one.processor.first1 one.processor.other0 one.processor.other1 q.first q.other t one.here one.active one.processor.beside one.processor.first one.processor.other (omega (arith, most, first, second, room)) in
      below_not 4 ((length q.queue0.items + length q.queue1.items) + ((finished0 q.first + finished1 q.first) + (finished0 q.other + finished1 q.other))) below

  no_rest : fate_of t ≡ Ends → leaves_requests q t w ≡ false
  unfolding leaves_requests unloaded0 unloaded1
  no_rest over =
      let code = one.thread.home.code in
      let n : ℕ = one.thread.index in
      let count0 : ℕ = queue_count q.second q.queue0.items + length t.results0.items in
      let count1 : ℕ = queue_count q.second q.queue1.items + length t.results1.items in
      let none = none_left code facts.sound facts.strict n (at_end one.thread.home n t one.thread.at over) in
      ap (λ v. nat_lt 0 ((count0 - one_if (loads v 0)) + one_if (writes_s v 0)) || nat_lt 0 ((count1 - one_if (loads v 1)) + one_if (writes_s v 1))) one.is
      ∙ or_from (nat_lt 0 ((count0 - one_if (loads (word code n) 0)) + one_if (writes_s (word code n) 0))) (nat_lt 0 ((count1 - one_if (loads (word code n) 1)) + one_if (writes_s (word code n) 1)))
      (count_left code 0 n count0 facts.inside facts.queue0 none.queue0) (count_left code 1 n count1 facts.inside facts.queue1 none.queue1)

  no_closed : is_last t w ≡ true → uses_closed t w ≡ false
  no_closed last =
      ap (uses_closed t) one.is ∙ closed_off one.thread.home.code one.thread.index (queue_count q.second q.queue0.items) (queue_count q.second q.queue1.items) t facts
      (last_by one.thread.home one.thread.index t one.thread.at (ap (is_last t) (sym one.is) ∙ last))

  no_two : nat_lt 1 (peripherals w) ≡ false
  no_two = ap (λ v. nat_lt 1 (peripherals v)) one.is ∙ two_off one.thread.home.code one.thread.index facts.now.no6

  no_mutex : reads w 51 ≡ false
  no_mutex = ap (λ v. reads v 51) one.is ∙ mutex_off one.thread.home.code one.thread.index facts.now.no7

no_rest_words : (t : Thread) → KeepsNone t → has_words t ≡ false
unfolding has_words
no_rest_words t none = or_from (nat_lt 0 (length t.setups0.items)) (nat_lt 0 (length t.setups1.items)) (ap (λ n. nat_lt 0 n) none.0) (ap (λ n. nat_lt 0 n) none.1)

pub obeys : (IsOf : ℕ → Home → Type 0) (orders : Orders) (s : State) (event : Event) → Finds IsOf s.memory → EachStrict IsOf orders 0 s.units.qpus → IsForbidden s event → ⊥
obeys IsOf orders s event here all (SwitchesWithWords q t w one over on) = true≢false (sym on ∙ no_switch IsOf (orders one.k 0) (orders one.k 1) s.memory q t w (known IsOf orders s event q t w here all one) over)
obeys IsOf orders s event here all (RestsWithWords k q t is rests on) =
    let processor : QpuStrict IsOf (orders k 0) (orders k 1) q = subst (λ (slot : Option Qpu). IfSome slot (QpuStrict IsOf (orders k 0) (orders k 1))) is (each_item (λ i p. QpuStrict IsOf (orders i 0) (orders i 1) p) 0 k k s.units.qpus (omega arith) all) in
    true≢false (sym on ∙ no_rest_words t (subst (λ (slot : Option Thread). IfSome slot KeepsNone) rests processor.rests))
obeys IsOf orders s event here all (EndsWithWords q t w one over on) = true≢false (sym on ∙ no_end IsOf (orders one.k 0) (orders one.k 1) s.memory q t w (known IsOf orders s event q t w here all one) over)
obeys IsOf orders s event here all (LoadsNothing q t w one on) = true≢false (sym on ∙ no_load IsOf (orders one.k 0) (orders one.k 1) s.memory q t w (known IsOf orders s event q t w here all one))
obeys IsOf orders s event here all (LacksRoom q t w one sent on) = true≢false (sym on ∙ no_room IsOf (orders one.k 0) (orders one.k 1) s.memory q t w (known IsOf orders s event q t w here all one) sent)
obeys IsOf orders s event here all (LeavesRequests q t w one over on) = true≢false (sym on ∙ no_rest IsOf (orders one.k 0) (orders one.k 1) s.memory q t w (known IsOf orders s event q t w here all one) over)
obeys IsOf orders s event here all (UsesClosed q t w one last on) = true≢false (sym on ∙ no_closed IsOf (orders one.k 0) (orders one.k 1) s.memory q t w (known IsOf orders s event q t w here all one) last)
obeys IsOf orders s event here all (UsesTwo q t w one on) = true≢false (sym on ∙ no_two IsOf (orders one.k 0) (orders one.k 1) s.memory q t w (known IsOf orders s event q t w here all one))
obeys IsOf orders s event here all (TakesMutex q t w one on) = true≢false (sym on ∙ no_mutex IsOf (orders one.k 0) (orders one.k 1) s.memory q t w (known IsOf orders s event q t w here all one))
