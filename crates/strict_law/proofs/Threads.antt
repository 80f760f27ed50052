-- A thread of a strict shader keeps what is known of it.
use Rattle.std.proofs.Common.{◌≡◌, ◌≢◌, ◌≤◌, ◌<◌, inl, inr, ℕ, ◌+◌, ◌-◌, ◌%◌, ◌^◌, Bool, true, false, List, [], length, Option, ◌⊎◌, if◌then◌else◌, refl, sym, ◌∙◌, ap, subst, arith, nat_lt}
use Rattle.std.proofs.lemmas.Bool.{not-true, or_parts, true≢false}
use Rattle.std.specs.Int.{from_le_bytes, w64}
use Rattle.field_words.specs.Words.{u32_at}
use Rattle.qpu_isa.specs.Terms.{is_switch, writes_s, loads}
use Rattle.shader_flow.specs.{Flow.word, Flow.end_of, Flow.checked_of, Flow.is_threaded, Pending.pending_of}
use Rattle.shader_flow.proofs.Ends.{checked_of-le}
use Rattle.uniform_stream.specs.Rules.{s20}
use Rattle.machine_plan.specs.{declared.launch.Launch.Launch, declared.who.Who.Who, Glance.glance_result, Memory.bytes_at}
use Rattle.machine_plan.specs.{Plan.Plan, Plan.Done, Plan.Wilds, Plan.Reads}
use Rattle.list_law.proofs.Safe.{keeps_if}
use Rattle.qpu_machine.specs.Step.{ThreadTurn, turn_executed, word_plan, thread_plan, is_held_by, is_held, thread_ready}
use Rattle.qpu_machine.specs.Writes.{awake, past_uniform, fate_of}
use Rattle.qpu_machine.specs.{declared.state.Thread.Thread, Start.thread_of, Wild.takes_one, Wild.is_wild}
use Rattle.qpu_machine.specs.declared.state.Fate.{Fate, TheVariants.Ends, TheVariants.Switches}
use Rattle.qpu_law.specs.Home.{Home, HasNoFault, IsAt, Jumps, GoesTo, Lands, turn_done}
use Rattle.qpu_law.proofs.Going.{behind, fine_at, in_checked, is_went, setups0_are, setups1_are, fate_is, stays_in_code_law}
use Rattle.qpu_law.proofs.Starting.{starts_stand_law}
use Rattle.promises.specs.Steps.{one_if}
use Rattle.ends_law.proofs.Plans.{AnyLook, AnyAccess, Comes}
use Rattle.served_law.proofs.Threads.{asks, done_asks, results0_are, results1_are, taken_left, load_has}
use Rattle.served_law.proofs.Shaders.{HasNone, one_s, count_on, jump_from, zero_by, ends_none}
use Rattle.strict_rules.specs.{Queue.queue_of, Queue.last_act, Queue.keeps_words, Rules.e1}
use Rattle.strict_law.specs.{Strict.IsStrict, Known.Finds, Known.LaunchStrict, Known.ThreadStrict, Known.IsSplit, Known.KeepsNone, Known.next_old}
use Rattle.strict_law.proofs.Shaders.{strict_here, kept_long, empty_at}
use Rattle.served_law.proofs.Marks.{at_end, at_switch}
use Rattle.strict_law.proofs.Stretches.{split_few, split_on, split_none, takes_old, early_at, switch_old, next_split, by_count}

-- Where a switch acts, no set-up words are kept.
pub switch_none : (code : List ℕ) (n : ℕ) → IsStrict code → n < checked_of code → 2 ≤ n → is_switch (word code (n - 2)) ≡ true → keeps_words code (n + 1) ≡ false
unfolding e1
switch_none code n strict inside from switch =
    let e : n - 2 + 3 ≡ n + 1 = omega (arith, from) in
    let off = (strict_here code strict (n - 2) (omega (arith, inside))).no1 in
    ap (keeps_words code) (sym e) ∙ behind (is_switch (word code (n - 2))) (keeps_words code (n - 2 + 3)) switch off

no_words : (code : List ℕ) (i : ℕ) → keeps_words code i ≡ false → (pending_of code 0 i ≡ 0) × (pending_of code 1 i ≡ 0)
unfolding keeps_words
no_words code i none =
    let both = or_parts (nat_lt 0 (pending_of code 0 i)) (nat_lt 0 (pending_of code 1 i)) none in
    (zero_by (pending_of code 0 i) both.0, zero_by (pending_of code 1 i) both.1)

-- What is counted before two instructions is the same.
pub record IsSame (code : List ℕ) (i to : ℕ) : Type 0 where
  pub pending0 : pending_of code 0 i ≡ pending_of code 0 to
  pub pending1 : pending_of code 1 i ≡ pending_of code 1 to
  pub queue0 : length (queue_of code 0 i) ≡ length (queue_of code 0 to)
  pub queue1 : length (queue_of code 1 i) ≡ length (queue_of code 1 to)

jump_same : (code : List ℕ) (n to : ℕ) → HasNoFault code → IsStrict code → n < checked_of code → Jumps code n to → IsSame code (n + 1) to
jump_same code n to sound strict inside jump =
    let from = empty_at code (n + 1) sound strict (jump_from code n to sound inside jump) in
    let there = empty_at code to sound strict jump.target in
    record {
      pending0 = from.pending0 ∙ sym there.pending0;
      pending1 = from.pending1 ∙ sym there.pending1;
      queue0 = from.queue0 ∙ sym there.queue0;
      queue1 = from.queue1 ∙ sym there.queue1;
    }

pub goes_same : (h : Home) (n : ℕ) (t next : Thread) → HasNoFault h.code → IsStrict h.code → n < checked_of h.code → (goes : GoesTo h n t next) → IsSame h.code (n + 1) goes.to
goes_same h n t next sound strict inside goes =
    elim goes.way [
      | inl is ↦ subst (λ i. IsSame h.code (n + 1) i) (sym is) (record { pending0 = refl; pending1 = refl; queue0 = refl; queue1 = refl })
      | inr lands ↦ jump_same h.code n goes.to sound strict inside lands.jump
    ]

-- What an instruction did for a TMU that had so much of the thread, so much from before the last switch: a load took one of these, and
-- where the thread switches, none is left of them.
pub record TmuGoes (load send threaded : Bool) (old all next : ℕ) (fate : Fate) : Type 0 where
  pub few : old ≤ all
  pub some : load ≡ true → 1 ≤ all
  pub takes : load ≡ true → (1 ≤ old) ⊎ (threaded ≡ false)
  pub next_is : next ≡ (all - one_if load) + one_if send
  pub switched : fate ≡ Switches → old - one_if load ≡ 0

-- What an instruction leaves of its thread is known again, with what it asked for; where the thread ends, nothing is left.
pub record ThreadGoes (IsOf : ℕ → Home → Type 0) (queued0 queued1 old0 old1 : ℕ) (t : Thread) (w : ℕ) (turn : ThreadTurn) : Type 0 where
  pub left : turn.leaves.fate ≢ Ends
      → ThreadStrict IsOf (queued0 + asks 0 turn.leaves.asked) (queued1 + asks 1 turn.leaves.asked)
      (next_old turn.leaves.fate (old0 - one_if (loads w 0)) (queued0 + asks 0 turn.leaves.asked + length turn.thread.results0.items))
      (next_old turn.leaves.fate (old1 - one_if (loads w 1)) (queued1 + asks 1 turn.leaves.asked + length turn.thread.results1.items)) turn.thread
  pub over : turn.leaves.fate ≡ Ends
      → (queued0 + asks 0 turn.leaves.asked + length turn.thread.results0.items ≡ 0) × (queued1 + asks 1 turn.leaves.asked + length turn.thread.results1.items ≡ 0)
  pub threaded : turn.thread.threaded ≡ t.threaded
  pub words : turn.leaves.fate ≡ Switches → KeepsNone turn.thread
  pub goes0 : TmuGoes (loads w 0) (writes_s w 0) t.threaded old0 (queued0 + length t.results0.items) (queued0 + asks 0 turn.leaves.asked + length turn.thread.results0.items) turn.leaves.fate
  pub goes1 : TmuGoes (loads w 1) (writes_s w 1) t.threaded old1 (queued1 + length t.results1.items) (queued1 + asks 1 turn.leaves.asked + length turn.thread.results1.items) turn.leaves.fate

pub old_or_single : (h : Home) (n tmu old all : ℕ) (threaded : Bool) → tmu < 2 → threaded ≡ is_threaded h.code → IsStrict h.code → n < checked_of h.code → IsSplit (last_act h.code n) (queue_of h.code tmu n) old → all ≡ length (queue_of h.code tmu n)
    → loads (word h.code n) tmu ≡ true → 1 ≤ all → (1 ≤ old) ⊎ (threaded ≡ false)
old_or_single h n tmu old all true small is strict inside split count load some =
    inl (takes_old h.code tmu n old (early_at h.code n (sym is) (strict_here h.code strict n inside).no4 tmu small) load (omega (arith, count, some)) split)
old_or_single h n tmu old all false small is strict inside split count load some = inr refl

load_some : (load : Bool) (n : ℕ) → one_if load ≤ n → load ≡ true → 1 ≤ n
load_some true n has on = has
load_some false n has on = absurd (true≢false (sym on))

tmu_goes : (h : Home) (n : ℕ) (t : Thread) (tmu old queued finished after more : ℕ) (fate : Fate) → tmu < 2 → HasNoFault h.code → IsStrict h.code → n < checked_of h.code → IsAt h n t → fate_of t ≡ fate
    → IsSplit (last_act h.code n) (queue_of h.code tmu n) old → queued + finished ≡ length (queue_of h.code tmu n) → one_if (loads (word h.code n) tmu) ≤ finished
    → after ≡ finished - one_if (loads (word h.code n) tmu) → more ≡ one_if (writes_s (word h.code n) tmu)
    → TmuGoes (loads (word h.code n) tmu) (writes_s (word h.code n) tmu) t.threaded old (queued + finished) (queued + more + after) fate
tmu_goes h n t tmu old queued finished after more fate small sound strict inside at is split count has taken sent =
    let few = split_few (last_act h.code n) (queue_of h.code tmu n) old split in
    let some : loads (word h.code n) tmu ≡ true → 1 ≤ queued + finished = λ on. (let one = load_some (loads (word h.code n) tmu) finished has on in omega (arith, one)) in
    record {
      few = omega (arith, few, count);
      some = some;
      takes = λ on. old_or_single h n tmu old (queued + finished) t.threaded small at.threaded strict inside split count on (some on);
      next_is = omega (arith, has, taken, sent);
      switched = λ switches.
          let switch = at_switch h n t at (is ∙ switches) in
          switch_old h.code tmu n (old - one_if (loads (word h.code n) tmu)) sound strict inside small switch.0 switch.1 (split_on h.code tmu n old inside split);
    }

-- behind the end nothing is outstanding
pub none_left : (code : List ℕ) → HasNoFault code → IsStrict code → (n : ℕ) → n ≡ end_of code + 2 → HasNone code (n + 1)
none_left code sound strict n last = ends_none code n (strict_here code strict (end_of code) (in_checked code (end_of code) sound (omega arith))).requests.leaves last

-- what is older where the thread comes to
empty_split : (h : Home) (n to tmu old all : ℕ) (fate : Fate) → tmu < 2 → HasNoFault h.code → IsStrict h.code → n < checked_of h.code → Jumps h.code n to → all ≡ length (queue_of h.code tmu (n + 1))
    → IsSplit (last_act h.code (n + 1)) (queue_of h.code tmu (n + 1)) old → IsSplit (last_act h.code to) (queue_of h.code tmu to) old
empty_split h n to tmu old all fate small sound strict inside jump count split =
    let from = empty_at h.code (n + 1) sound strict (jump_from h.code n to sound inside jump) in
    let there = empty_at h.code to sound strict jump.target in
    let none = by_count (λ k. length (queue_of h.code k (n + 1))) tmu small from.queue0 from.queue1 in
    let few = split_few (last_act h.code (n + 1)) (queue_of h.code tmu (n + 1)) old split in
    split_none (last_act h.code to) (queue_of h.code tmu to) old (by_count (λ k. length (queue_of h.code k to)) tmu small there.queue0 there.queue1) (omega (arith, none, few))

to_split : (h : Home) (n to : ℕ) (t next : Thread) (tmu old all : ℕ) (fate : Fate) → tmu < 2 → HasNoFault h.code → IsStrict h.code → n < checked_of h.code → IsAt h n t → fate_of t ≡ fate → fate ≢ Ends
    → all ≡ length (queue_of h.code tmu (n + 1)) → IsSplit (last_act h.code n) (queue_of h.code tmu n) old → (to ≡ n + 1) ⊎ Lands h.code n to t next
    → IsSplit (last_act h.code to) (queue_of h.code tmu to) (next_old fate (old - one_if (loads (word h.code n) tmu)) all)
to_split h n to t next tmu old all fate small sound strict inside at is lives count split way =
    let code = h.code in
    let on : IsSplit (last_act code (n + 1)) (queue_of code tmu (n + 1)) (next_old fate (old - one_if (loads (word code n) tmu)) all) =
    subst (λ k. IsSplit (last_act code (n + 1)) (queue_of code tmu (n + 1)) (next_old fate (old - one_if (loads (word code n) tmu)) k)) (sym count) (next_split h n t tmu old fate small sound strict inside at is lives split) in
    elim way [
      | inl same ↦ subst (λ i. IsSplit (last_act code i) (queue_of code tmu i) (next_old fate (old - one_if (loads (word code n) tmu)) all)) (sym same) on
      | inr lands ↦ empty_split h n to tmu (next_old fate (old - one_if (loads (word code n) tmu)) all) all fate small sound strict inside lands.jump count on
    ]

done_goes : (IsOf : ℕ → Home → Type 0) (queued0 queued1 old0 old1 : ℕ) (t : Thread) (u uniforms : ℕ) (words m : List ℕ) → Finds IsOf m → (left : ThreadStrict IsOf queued0 queued1 old0 old1 t)
    → is_held t (word left.home.code left.index) queued0 queued1 ≡ false → ThreadGoes IsOf queued0 queued1 old0 old1 t (word left.home.code left.index) (turn_done (word left.home.code left.index) u uniforms words t)
unfolding is_held s20
done_goes IsOf queued0 queued1 old0 old1 t u uniforms words m here left free =
    let h = left.home in
    let i : ℕ = left.index in
    let w : ℕ = word h.code i in
    let turn = turn_done w u uniforms words t in
    let next = turn.thread in
    let home = (here t.job h left.stands).is in
    let inside : i < checked_of h.code = in_checked h.code i home.sound left.at.inside in
    let more = done_asks w u uniforms words t (one_s w (fine_at h.code home.sound i inside).no20) in
    let held = or_parts (is_held_by w 0 queued0 (length t.results0.items)) (is_held_by w 1 queued1 (length t.results1.items)) free in
    let taken0 : length next.results0.items ≡ length t.results0.items - one_if (loads w 0) = ap (λ (rs : List (Option (List ℕ))). length rs) (results0_are w u uniforms words t) ∙ taken_left (loads w 0) t.results0.items in
    let taken1 : length next.results1.items ≡ length t.results1.items - one_if (loads w 1) = ap (λ (rs : List (Option (List ℕ))). length rs) (results1_are w u uniforms words t) ∙ taken_left (loads w 1) t.results1.items in
    let on0 = count_on h.code 0 i queued0 (length t.results0.items) (length next.results0.items) (asks 0 turn.leaves.asked) inside left.tmu0 (load_has w 0 queued0 (length t.results0.items) held.0) taken0 more.0 in
    let on1 = count_on h.code 1 i queued1 (length t.results1.items) (length next.results1.items) (asks 1 turn.leaves.asked) inside left.tmu1 (load_has w 1 queued1 (length t.results1.items) held.1) taken1 more.1 in
    let kept0 = ap (λ (xs : List ℕ). length xs) (setups0_are w u uniforms words t) ∙ kept_long h.code i 0 u t.setups0.items home.sound inside left.pending.tmu0 in
    let kept1 = ap (λ (xs : List ℕ). length xs) (setups1_are w u uniforms words t) ∙ kept_long h.code i 1 u t.setups1.items home.sound inside left.pending.tmu1 in
    let went = is_went w u uniforms words t in
    let fate : fate_of t ≡ turn.leaves.fate = sym (fate_is w u uniforms words t) in
    record {
      left = λ lives.
          let goes = stays_in_code_law h i u uniforms words t home.sound home.low left.at lives in
          let there = goes_same h i t next home.sound left.strict inside goes in
          record {
            home = h;
            strict = left.strict;
            stands = subst (λ j. IsOf j h) (sym went.job) left.stands;
            index = goes.to;
            at = goes.at;
            pending = record { tmu0 = kept0 ∙ there.pending0; tmu1 = kept1 ∙ there.pending1 };
            tmu0 = on0 ∙ there.queue0;
            tmu1 = on1 ∙ there.queue1;
            split0 = to_split h i goes.to t next 0 old0 (queued0 + asks 0 turn.leaves.asked + length next.results0.items) turn.leaves.fate (omega arith) home.sound left.strict inside left.at fate lives on0 left.split0 goes.way;
            split1 = to_split h i goes.to t next 1 old1 (queued1 + asks 1 turn.leaves.asked + length next.results1.items) turn.leaves.fate (omega arith) home.sound left.strict inside left.at fate lives on1 left.split1 goes.way;
          };
      over = λ over.
          let last = at_end h i t left.at (fate ∙ over) in
          let none = none_left h.code home.sound left.strict i last in
          (on0 ∙ none.queue0, on1 ∙ none.queue1);
      threaded = went.threaded;
      words = λ switches.
          let switch = at_switch h i t left.at (fate ∙ switches) in
          let none = no_words h.code (i + 1) (switch_none h.code i left.strict inside switch.0 switch.1) in
          (kept0 ∙ none.0, kept1 ∙ none.1);
      goes0 = tmu_goes h i t 0 old0 queued0 (length t.results0.items) (length next.results0.items) (asks 0 turn.leaves.asked) turn.leaves.fate (omega arith) home.sound left.strict inside left.at fate left.split0 left.tmu0
          (load_has w 0 queued0 (length t.results0.items) held.0) taken0 more.0;
      goes1 = tmu_goes h i t 1 old1 queued1 (length t.results1.items) (length next.results1.items) (asks 1 turn.leaves.asked) turn.leaves.fate (omega arith) home.sound left.strict inside left.at fate left.split1 left.tmu1
          (load_has w 1 queued1 (length t.results1.items) held.1) taken1 more.1;
    }

word_goes : (IsOf : ℕ → Home → Type 0) (queued0 queued1 old0 old1 : ℕ) (t : Thread) (who : Who) (words m : List ℕ) → Finds IsOf m → (left : ThreadStrict IsOf queued0 queued1 old0 old1 t)
    → is_held t (word left.home.code left.index) queued0 queued1 ≡ false → Comes who (ThreadGoes IsOf queued0 queued1 old0 old1 t (word left.home.code left.index)) (word_plan t (word left.home.code left.index) words) m
unfolding word_plan past_uniform
word_goes IsOf queued0 queued1 old0 old1 t who words m here left free =
    let w : ℕ = word left.home.code left.index in
    let P = λ (k : List ℕ) (turn : ThreadTurn). ThreadGoes IsOf queued0 queued1 old0 old1 t w turn in
    let taken : Plan ThreadTurn = Reads t.uniforms 4 (λ bytes. Done (turn_executed w (u32_at bytes 0) words (awake words (past_uniform t)))) in
    let untaken : Plan ThreadTurn = Done (turn_executed w 0 words (awake words t)) in
    keeps_if who AnyLook AnyAccess P m (is_wild t w) Wilds (if takes_one t w then taken else untaken) (λ wild. tt)
    (λ tame. keeps_if who AnyLook AnyAccess P m (takes_one t w) taken untaken
    (λ on. (tt, done_goes IsOf queued0 queued1 old0 old1 t (u32_at (bytes_at m t.uniforms 4) 0) ((t.uniforms + 4) % 2 ^ 32) words m here left free))
    (λ off. done_goes IsOf queued0 queued1 old0 old1 t 0 t.uniforms words m here left free))

-- the word at its place is its instruction
pub reads_word : (IsOf : ℕ → Home → Type 0) (queued0 queued1 old0 old1 : ℕ) (t : Thread) (m : List ℕ) → Finds IsOf m → (left : ThreadStrict IsOf queued0 queued1 old0 old1 t)
    → from_le_bytes w64 (bytes_at m t.place 8) ≡ word left.home.code left.index
reads_word IsOf queued0 queued1 old0 old1 t m here left =
    let h = left.home in
    let home = (here t.job h left.stands).is in
    let inside : left.index < checked_of h.code = in_checked h.code left.index home.sound left.at.inside in
    let size = checked_of-le h.code in
    let there : left.index < length h.code = omega (arith, inside, size) in
    ap (λ q. from_le_bytes w64 (bytes_at m q 8)) left.at.place ∙ home.code_is left.index there

pub thread_goes : (IsOf : ℕ → Home → Type 0) (queued0 queued1 old0 old1 : ℕ) (t : Thread) (who : Who) (words m : List ℕ) → Finds IsOf m → ThreadStrict IsOf queued0 queued1 old0 old1 t
    → glance_result (thread_ready t queued0 queued1) m ≡ true → Comes who (ThreadGoes IsOf queued0 queued1 old0 old1 t (from_le_bytes w64 (bytes_at m t.place 8))) (thread_plan t words) m
unfolding thread_plan thread_ready
thread_goes IsOf queued0 queued1 old0 old1 t who words m here left ready =
    let read = reads_word IsOf queued0 queued1 old0 old1 t m here left in
    let free : is_held t (word left.home.code left.index) queued0 queued1 ≡ false = ap (λ w. is_held t w queued0 queued1) (sym read) ∙ not-true (is_held t (from_le_bytes w64 (bytes_at m t.place 8)) queued0 queued1) ready in
    (tt, subst (λ w. Comes who (ThreadGoes IsOf queued0 queued1 old0 old1 t w) (word_plan t w words) m) (sym read) (word_goes IsOf queued0 queued1 old0 old1 t who words m here left free))

-- a program that starts has nothing outstanding
pub thread_begins : (IsOf : ℕ → Home → Type 0) (j : ℕ) (launch : Launch) → LaunchStrict (IsOf j) launch → ThreadStrict IsOf 0 0 0 0 (thread_of j launch)
unfolding thread_of queue_of pending_of
thread_begins IsOf j launch known = record {
  home = known.home;
  strict = known.strict;
  stands = known.stands;
  index = 0;
  at = (starts_stand_law known.home j launch known.code known.uniforms known.threaded).at;
  pending = record { tmu0 = refl; tmu1 = refl };
  tmu0 = refl;
  tmu1 = refl;
  split0 = split_none (last_act known.home.code 0) [] 0 refl refl;
  split1 = split_none (last_act known.home.code 0) [] 0 refl refl;
}
