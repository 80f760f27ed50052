-- A thread of a shader that is served keeps count of what it has outstanding, and is never held up but by a queued request.
use Rattle.std.proofs.Common.{◌≡◌, ◌≢◌, ◌≤◌, ◌<◌, ℕ, zero, suc, ◌+◌, ◌-◌, ◌==◌, ◌&&◌, ◌||◌, not, Bool, true, false, List, [], ◌∷◌, length, Option, Some, None, if◌then◌else◌, refl, sym, ◌∙◌, ap, subst, arith}
use Rattle.std.proofs.{lemmas.Bool.not-true, lemmas.Bool.or_from, lemmas.Bool.or_parts, lemmas.Bool.true≢false, lemmas.Grind.common_steps}
use Rattle.std.proofs.lemmas.Bool.Decides.{nat_tests}
use Rattle.std.specs.{Int.from_le_bytes, Int.w64, Prelude.nat_le, Prelude.drop}
use Rattle.qpu_isa.specs.Terms.{writes_s, loads}
use Rattle.shader_flow.specs.Flow.{word, end_of, checked_of}
use Rattle.uniform_stream.specs.Rules.{s20}
use Rattle.machine_plan.specs.{declared.launch.Launch.Launch, declared.who.Who.Who, Glance.glance_result, Memory.bytes_at}
use Rattle.machine_plan.specs.{Regions.Rights, Regions.rights_of}
use Rattle.qpu_machine.specs.Step.{ThreadTurn, turn_executed, executed_with, thread_plan, is_held_by, is_held, thread_ready}
use Rattle.qpu_machine.specs.Writes.{awake, after_rest, after_work, went_on, after_load, after_setup, after_writes, after_multiply, after_add, written_at, ask_of, ask_made, results_after}
use Rattle.qpu_machine.specs.{declared.state.Asked.Asked, Operands.add_row, Operands.mul_row, declared.state.Fate.TheVariants.Ends}
use Rattle.qpu_machine.specs.{declared.state.Thread.Thread, Start.thread_of}
use Rattle.qpu_law.specs.{Home.turn_done, Home.thread_readied, Thread.IsHome}
use Rattle.qpu_law.proofs.{Going.fine_at, Going.in_checked, Going.is_went, Going.fate_is, Going.stays_in_code_law}
use Rattle.promises.specs.{Steps.one_if, Finished.may_wait}
use Rattle.strict_rules.specs.{Queue.queue_of, Rules.loads_none}
use Rattle.strict_rules.proofs.Rooms.{room_first, room_second}
use Rattle.ends_law.proofs.{Plans.Comes, Threads.reads_word, Threads.starts_at, Threads.thread_comes}
use Rattle.served_law.specs.Known.{LaunchServed, ThreadServed}
use Rattle.served_law.proofs.{Marks.at_end, Shaders.one_s, Shaders.no_e3, Shaders.serves_by, Shaders.serves_at, Shaders.count_on, Shaders.goes_same, Shaders.ends_none}

-- how many of what was asked goes to a TMU
abbrev pub asks : ℕ → Option Asked → ℕ
asks tmu None = 0
asks tmu (Some one) = one_if (one.tmu == tmu)

asks_by : (first second : Bool) (one other : Asked) → one.tmu ≡ 0 → other.tmu ≡ 1 → (first ≡ true → second ≡ false)
    → (asks 0 (if first then Some one else (if second then Some other else None)) ≡ one_if first) × (asks 1 (if first then Some one else (if second then Some other else None)) ≡ one_if second)
asks_by true true one other zero_is one_is alone = absurd (true≢false (alone refl))
asks_by true false one other zero_is one_is alone = (ap (λ n. one_if (n == 0)) zero_is, ap (λ n. one_if (n == 1)) zero_is)
asks_by false true one other zero_is one_is alone = (ap (λ n. one_if (n == 0)) one_is, ap (λ n. one_if (n == 1)) one_is)
asks_by false false one other zero_is one_is alone = (refl, refl)

asked_asks : (w uniform : ℕ) (sum product : List ℕ) (t : Thread) → (writes_s w 0 ≡ true → writes_s w 1 ≡ false)
    → (asks 0 (ask_made w uniform sum product t) ≡ one_if (writes_s w 0)) × (asks 1 (ask_made w uniform sum product t) ≡ one_if (writes_s w 1))
unfolding ask_made
asked_asks w uniform sum product t alone =
    asks_by (writes_s w 0) (writes_s w 1) (record { tmu = 0; ask = ask_of w 0 uniform sum product t.setups0.items }) (record { tmu = 1; ask = ask_of w 1 uniform sum product t.setups1.items }) refl refl alone

pub done_asks : (w u uniforms : ℕ) (words : List ℕ) (t : Thread) → (writes_s w 0 ≡ true → writes_s w 1 ≡ false)
    → (asks 0 (turn_done w u uniforms words t).leaves.asked ≡ one_if (writes_s w 0)) × (asks 1 (turn_done w u uniforms words t).leaves.asked ≡ one_if (writes_s w 1))
unfolding turn_executed executed_with
done_asks w u uniforms words t alone =
    let t1 : Thread = thread_readied uniforms words t in
    asked_asks w u (add_row t1 w u words) (mul_row t1 w u words) t1 alone

-- A load takes a result.
pub results0_are : (w u uniforms : ℕ) (words : List ℕ) (t : Thread) → (turn_done w u uniforms words t).thread.results0.items ≡ results_after (loads w 0) t.results0.items
unfolding awake turn_executed executed_with after_rest after_work went_on after_load after_setup after_writes after_multiply after_add written_at
results0_are w u uniforms words t = refl

pub results1_are : (w u uniforms : ℕ) (words : List ℕ) (t : Thread) → (turn_done w u uniforms words t).thread.results1.items ≡ results_after (loads w 1) t.results1.items
unfolding awake turn_executed executed_with after_rest after_work went_on after_load after_setup after_writes after_multiply after_add written_at
results1_are w u uniforms words t = refl

one_taken : {X : Type 0} (taken : Bool) (results : List X) → length (if taken then drop 1 results else results) ≡ length results - one_if taken
one_taken true [] = refl
one_taken true (r ∷ results) = omega arith
one_taken false results = omega arith

pub taken_left : (taken : Bool) (results : List (Option (List ℕ))) → length (results_after taken results) ≡ length results - one_if taken
unfolding results_after
taken_left taken results = one_taken taken results

-- The count goes on, where the instruction isn't held up by the results that there are.
held_some : (load : Bool) (finished : ℕ) (send : Bool) → ((load && finished == 0) || send) ≡ false → one_if load ≤ finished
held_some true zero send off = absurd (true≢false off)
held_some true (suc finished) send off = omega arith
held_some false finished send off = omega arith

pub load_has : (w tmu queued finished : ℕ) → is_held_by w tmu queued finished ≡ false → one_if (loads w tmu) ≤ finished
unfolding is_held_by
load_has w tmu queued finished off = held_some (loads w tmu) finished (writes_s w tmu && nat_le 8 (queued + finished)) off

-- What an instruction leaves of its thread keeps the count, with what it asked for.
pub record ThreadGoes (rights : List Rights) (K : List ℕ → Type 0) (queued0 queued1 : ℕ) (t : Thread) (turn : ThreadTurn) : Type 0 where
  pub left : turn.leaves.fate ≢ Ends → ThreadServed rights K (queued0 + asks 0 turn.leaves.asked) (queued1 + asks 1 turn.leaves.asked) turn.thread
  pub over : turn.leaves.fate ≡ Ends → (queued0 + asks 0 turn.leaves.asked ≡ 0) × (queued1 + asks 1 turn.leaves.asked ≡ 0)
  pub threaded : turn.thread.threaded ≡ t.threaded

done_goes : (rights : List Rights) (K : List ℕ → Type 0) (queued0 queued1 : ℕ) (t : Thread) (u uniforms : ℕ) (words m : List ℕ) → K m → (left : ThreadServed rights K queued0 queued1 t)
    → is_held t (word left.there.home.code left.there.index) queued0 queued1 ≡ false → ThreadGoes rights K queued0 queued1 t (turn_done (word left.there.home.code left.there.index) u uniforms words t)
unfolding is_held s20
done_goes rights K queued0 queued1 t u uniforms words m here left free =
    let h = left.there.home in
    let i : ℕ = left.there.index in
    let w : ℕ = word h.code i in
    let next = (turn_done w u uniforms words t).thread in
    let home = left.there.stands m here in
    let before : i < checked_of h.code = in_checked h.code i home.sound left.there.at.inside in
    let alone = one_s w (fine_at h.code home.sound i before).no20 in
    let more = done_asks w u uniforms words t alone in
    let held = or_parts (is_held_by w 0 queued0 (length t.results0.items)) (is_held_by w 1 queued1 (length t.results1.items)) free in
    let taken0 : length next.results0.items ≡ length t.results0.items - one_if (loads w 0) = ap (λ (rs : List (Option (List ℕ))). length rs) (results0_are w u uniforms words t) ∙ taken_left (loads w 0) t.results0.items in
    let taken1 : length next.results1.items ≡ length t.results1.items - one_if (loads w 1) = ap (λ (rs : List (Option (List ℕ))). length rs) (results1_are w u uniforms words t) ∙ taken_left (loads w 1) t.results1.items in
    let on0 = count_on h.code 0 i queued0 (length t.results0.items) (length next.results0.items) (asks 0 (turn_done w u uniforms words t).leaves.asked) before left.tmu0 (load_has w 0 queued0 (length t.results0.items) held.0) taken0 more.0 in
    let on1 = count_on h.code 1 i queued1 (length t.results1.items) (length next.results1.items) (asks 1 (turn_done w u uniforms words t).leaves.asked) before left.tmu1 (load_has w 1 queued1 (length t.results1.items) held.1) taken1 more.1 in
    record {
      left = λ lives.
          let goes = stays_in_code_law h i u uniforms words t home.sound home.low left.there.at lives in
          let job = (is_went w u uniforms words t).job in
          let same = goes_same h i t next home.sound left.there.so before goes in
          record {
            there = record { home = h; so = left.there.so; stands = λ k there. subst (λ j. IsHome k (rights_of rights j).region h) (sym job) (left.there.stands k there); index = goes.to; at = goes.at };
            tmu0 = on0 ∙ same.0;
            tmu1 = on1 ∙ same.1;
          };
      over = λ over.
          let off = (serves_at h.code (end_of h.code) left.there.so (in_checked h.code (end_of h.code) home.sound (omega arith))).leaves in
          let none = ends_none h.code i off (at_end h i t left.there.at (sym (fate_is w u uniforms words t) ∙ over)) in
          let none0 = none.queue0 in
          let none1 = none.queue1 in
          (omega (arith, on0, none0), omega (arith, on1, none1));
      threaded = (is_went w u uniforms words t).threaded;
    }

pub thread_goes : (rights : List Rights) (K : List ℕ → Type 0) (queued0 queued1 : ℕ) (t : Thread) (who : Who) (words m : List ℕ) → K m → ThreadServed rights K queued0 queued1 t
    → glance_result (thread_ready t queued0 queued1) m ≡ true → Comes who (ThreadGoes rights K queued0 queued1 t) (thread_plan t words) m
unfolding thread_plan thread_ready
thread_goes rights K queued0 queued1 t who words m here left ready =
    let w : ℕ = word left.there.home.code left.there.index in
    let read = reads_word (rights_of rights t.job) K (λ code. may_wait code ≡ false) t m here left.there in
    let free : is_held t w queued0 queued1 ≡ false = ap (λ w. is_held t w queued0 queued1) (sym read) ∙ not-true (is_held t (from_le_bytes w64 (bytes_at m t.place 8)) queued0 queued1) ready in
    thread_comes who (ThreadGoes rights K queued0 queued1 t) w t words m read (λ u uniforms. done_goes rights K queued0 queued1 t u uniforms words m here left free)

-- Where no request of it is queued, it may step.
never_full : (sends : Bool) (n : ℕ) → (sends ≡ true → n < 4) → (sends && nat_le 8 n) ≡ false
never_full true n few = let below = few refl in grind (arith, common_steps, nat_tests, below)
never_full false n few = refl

never_held : (code : List ℕ) (tmu i finished : ℕ) → loads_none code tmu i ≡ false → (writes_s (word code i) tmu ≡ true → length (queue_of code tmu i) < 4)
    → 0 + finished ≡ length (queue_of code tmu i) → is_held_by (word code i) tmu 0 finished ≡ false
unfolding loads_none is_held_by
never_held code tmu i finished off room count =
    let w : ℕ = word code i in
    let is : finished ≡ length (queue_of code tmu i) = omega (arith, count) in
    or_from (loads w tmu && finished == 0) (writes_s w tmu && nat_le 8 (0 + finished))
    (ap (λ k. loads w tmu && k == 0) is ∙ off)
    (never_full (writes_s w tmu) (0 + finished) (λ sent. let below = room sent in omega (arith, count, below)))

pub thread_may : (rights : List Rights) (K : List ℕ → Type 0) (t : Thread) (m : List ℕ) → K m → ThreadServed rights K 0 0 t → glance_result (thread_ready t 0 0) m ≡ true
unfolding thread_ready is_held
thread_may rights K t m here left =
    let h = left.there.home in
    let i : ℕ = left.there.index in
    let home = left.there.stands m here in
    let off = no_e3 h.code i left.there.so (in_checked h.code i home.sound left.there.at.inside) in
    let known = serves_by h.code i off in
    let free : not (is_held t (word h.code i) 0 0) ≡ true = ap not (or_from (is_held_by (word h.code i) 0 0 (length t.results0.items)) (is_held_by (word h.code i) 1 0 (length t.results1.items))
    (never_held h.code 0 i (length t.results0.items) known.none0 (room_first h.code i off) left.tmu0)
    (never_held h.code 1 i (length t.results1.items) known.none1 (room_second h.code i off) left.tmu1)) in
    ap (λ w. not (is_held t w 0 0)) (reads_word (rights_of rights t.job) K (λ code. may_wait code ≡ false) t m here left.there) ∙ free

-- a program that starts has nothing outstanding
pub thread_begins : (rights : List Rights) (K : List ℕ → Type 0) (j : ℕ) (launch : Launch) → LaunchServed rights K j launch → ThreadServed rights K 0 0 (thread_of j launch)
unfolding thread_of queue_of starts_at
thread_begins rights K j launch served =
    record { there = starts_at (rights_of rights j) K (λ code. may_wait code ≡ false) (λ code. may_wait code ≡ false) j launch (λ code is. is) served; tmu0 = refl; tmu1 = refl }
