-- A thread of a shader without loops goes forward.
use Rattle.std.proofs.Common.{◌≡◌, ◌≢◌, ◌≤◌, ◌<◌, inl, inr, ℕ, zero, suc, ◌+◌, ◌-◌, ◌%◌, ◌^◌, ◌&&◌, ◌||◌, Bool, true, false, List, length, Some, None, if◌then◌else◌, sym, ◌∙◌, ap, subst, arith}
use Rattle.std.proofs.{lemmas.Bool.cases_lt, lemmas.Grind.common_steps, lemmas.Bool.Decides.nat_tests}
use Rattle.std.specs.{Int.from_le_bytes, Int.w64, Prelude.nat_lt, Prelude.is_some}
use Rattle.field_words.specs.Words.{u32_at}
use Rattle.qpu_isa.specs.Terms.{is_branch, target_of, writes_s}
use Rattle.shader_flow.specs.Flow.{word, end_of, checked_of}
use Rattle.shader_flow.proofs.{Bounded.some_below_not, Ends.checked_of-le}
use Rattle.machine_plan.specs.{declared.launch.Launch.Launch, declared.who.Who.Who, Memory.bytes_at, Regions.Rights}
use Rattle.machine_plan.specs.Plan.{Plan, Done, Wilds, Reads}
use Rattle.list_law.proofs.Safe.{keeps_if}
use Rattle.qpu_machine.specs.{declared.state.Asked.Asked, Operands.add_row, Operands.mul_row, declared.state.Fate.TheVariants.Ends}
use Rattle.qpu_machine.specs.{declared.state.Thread.Thread, Start.thread_of, Wild.takes_one, Wild.is_wild}
use Rattle.qpu_machine.specs.Step.{ThreadTurn, turn_executed, executed_with, word_plan, thread_plan}
use Rattle.qpu_machine.specs.Writes.{awake, past_uniform, ask_of, ask_made}
use Rattle.qpu_law.specs.{Home.Home, Home.Jumps, Home.GoesTo, Home.turn_done}
use Rattle.qpu_law.proofs.{Going.in_checked, Going.stays_in_code_law, Starting.starts_stand_law}
use Rattle.ends_law.specs.Left.{LaunchSo, ThreadAt, ThreadLeft}
use Rattle.promises.specs.Steps.{one_if, goes_back, has_loop, instruction_steps, steps_before, program_steps}
use Rattle.ends_law.specs.Loops.{IsShort}
use Rattle.ends_law.proofs.Plans.{AnyLook, AnyAccess, Comes}

-- a branch that doesn't lead back
pub not_both : (branch back : Bool) → (branch && back) ≡ false → branch ≡ true → back ≡ false
not_both true back off on = off
not_both false back off on = absurd cc

leads_on : (code : List ℕ) (b : ℕ) → has_loop code ≡ false → b < end_of code → is_branch (word code b) ≡ true → b + 4 ≤ target_of (word code b) b
unfolding has_loop goes_back
leads_on code b none below branch =
    let off : (is_branch (word code b) && nat_lt (target_of (word code b) b) (b + 4)) ≡ false = some_below_not (end_of code) b (λ i. goes_back code i) none below in
    let on : nat_lt (target_of (word code b) b) (b + 4) ≡ false = not_both (is_branch (word code b)) (nat_lt (target_of (word code b) b) (b + 4)) off branch in
    grind (arith, common_steps, nat_tests, on)

jump_on : (code : List ℕ) (n to : ℕ) → has_loop code ≡ false → n ≤ end_of code + 2 → Jumps code n to → n + 1 ≤ to
jump_on code n to none inside jump =
    let from = jump.from in
    let is = jump.is in
    let on = leads_on code (n - 3) none (omega (arith, from, inside)) jump.branch in
    omega (arith, on, is, from)

goes_on : (h : Home) (n : ℕ) (t next : Thread) → has_loop h.code ≡ false → n ≤ end_of h.code + 2 → (goes : GoesTo h n t next) → n + 1 ≤ goes.to
goes_on h n t next none inside goes =
    elim goes.way [
      | inl is ↦ omega (arith, is)
      | inr lands ↦ jump_on h.code n goes.to none inside lands.jump
    ]

-- The steps of the first instructions are more, the more they are.
more_before : (code : List ℕ) (i n : ℕ) → i ≤ n → steps_before code i ≤ steps_before code n
unfolding steps_before
more_before code i zero few = let e : i ≡ 0 = omega (arith, few) in subst (λ k. steps_before code k ≤ 0) (sym e) (omega arith)
more_before code i (suc n) few =
    elim (cases_lt i (suc n)) [
      | inl earlier ↦ let less = more_before code i n (omega (arith, earlier)) in omega (arith, less)
      | inr past ↦ let e : i ≡ suc n = omega (arith, few, past) in subst (λ k. steps_before code k ≤ steps_before code (suc n)) (sym e) (omega arith)
    ]

one_step : (code : List ℕ) (i : ℕ) → steps_before code (i + 1) ≡ steps_before code i + instruction_steps (word code i)
unfolding steps_before
one_step code i = let e : i + 1 ≡ suc i = omega arith in ap (steps_before code) e

-- An instruction asks at most what it is counted for.
asks_by : (first second : Bool) (one other : Asked) → 1 + one_if (is_some (if first then Some one else (if second then Some other else None))) ≡ (if first || second then 2 else 1)
asks_by true second one other = omega arith
asks_by false true one other = omega arith
asks_by false false one other = omega arith

asked_steps : (w uniform : ℕ) (sum product : List ℕ) (t : Thread) → 1 + one_if (is_some (ask_made w uniform sum product t)) ≡ instruction_steps w
unfolding ask_made instruction_steps
asked_steps w uniform sum product t =
    asks_by (writes_s w 0) (writes_s w 1) (record { tmu = 0; ask = ask_of w 0 uniform sum product t.setups0.items }) (record { tmu = 1; ask = ask_of w 1 uniform sum product t.setups1.items })

done_steps : (w u uniforms : ℕ) (words : List ℕ) (t : Thread) → 1 + one_if (is_some (turn_done w u uniforms words t).leaves.asked) ≡ instruction_steps w
unfolding turn_executed executed_with
done_steps w u uniforms words t =
    let t1 : Thread = awake words (record t { uniforms = uniforms }) in
    asked_steps w u (add_row t1 w u words) (mul_row t1 w u words) t1

-- What an instruction leaves of its thread takes fewer steps: its own is done, and that which serves what it asked for is owed.
pub record ThreadGoes (r : Rights) (K : List ℕ → Type 0) (n : ℕ) (turn : ThreadTurn) : Type 0 where
  pub rest : ℕ
  pub left : turn.leaves.fate ≢ Ends → ThreadLeft r K rest turn.thread
  pub less : rest + 1 + one_if (is_some turn.leaves.asked) ≤ n

done_goes : (r : Rights) (K : List ℕ → Type 0) (n : ℕ) (t : Thread) (u uniforms : ℕ) (words m : List ℕ) → K m → (left : ThreadLeft r K n t)
    → ThreadGoes r K n (turn_done (word left.there.home.code left.there.index) u uniforms words t)
unfolding program_steps
done_goes r K n t u uniforms words m here left =
    let h = left.there.home in
    let i : ℕ = left.there.index in
    let next = (turn_done (word h.code i) u uniforms words t).thread in
    let home = left.there.stands m here in
    let inside = left.there.at.inside in
    let sum = left.left in
    let before : i < checked_of h.code = in_checked h.code i home.sound inside in
    let steps : steps_before h.code (i + 1) ≤ program_steps h.code = more_before h.code (i + 1) (checked_of h.code) (omega (arith, before)) in
    let own = one_step h.code i in
    let cost = done_steps (word h.code i) u uniforms words t in
    record {
      rest = n - instruction_steps (word h.code i);
      left = λ lives.
          let goes = stays_in_code_law h i u uniforms words t home.sound home.low left.there.at lives in
          let on : i + 1 ≤ goes.to = goes_on h i t next left.there.so inside goes in
          let more = more_before h.code (i + 1) goes.to on in
          record {
            there = record { home = h; so = left.there.so; stands = left.there.stands; index = goes.to; at = goes.at };
            left = omega (arith, more, own, sum);
          };
      less = omega (arith, steps, own, cost, sum);
    }

-- What the instruction leaves that stands at a thread's place.
pub thread_comes : (who : Who) (P : ThreadTurn → Type 0) (w : ℕ) (t : Thread) (words m : List ℕ) → from_le_bytes w64 (bytes_at m t.place 8) ≡ w → ((u uniforms : ℕ) → P (turn_done w u uniforms words t)) → Comes who P (thread_plan t words) m
unfolding thread_plan word_plan past_uniform
thread_comes who P w t words m read each =
    let Q = λ (k : List ℕ) (turn : ThreadTurn). P turn in
    let taken : Plan ThreadTurn = Reads t.uniforms 4 (λ bytes. Done (turn_executed w (u32_at bytes 0) words (awake words (past_uniform t)))) in
    let untaken : Plan ThreadTurn = Done (turn_executed w 0 words (awake words t)) in
    let goes : Comes who P (word_plan t w words) m = keeps_if who AnyLook AnyAccess Q m (is_wild t w) Wilds (if takes_one t w then taken else untaken) (λ wild. tt)
    (λ tame. keeps_if who AnyLook AnyAccess Q m (takes_one t w) taken untaken (λ on. (tt, each (u32_at (bytes_at m t.uniforms 4) 0) ((t.uniforms + 4) % 2 ^ 32))) (λ off. each 0 t.uniforms)) in
    (tt, subst (λ k. Comes who P (word_plan t k words) m) (sym read) goes)

pub reads_word : (r : Rights) (K : List ℕ → Type 0) (S : List ℕ → Type 0) (t : Thread) (m : List ℕ) → K m → (there : ThreadAt r K S t) → from_le_bytes w64 (bytes_at m t.place 8) ≡ word there.home.code there.index
reads_word r K S t m here there =
    let h = there.home in
    let home = there.stands m here in
    let inside : there.index < checked_of h.code = in_checked h.code there.index home.sound there.at.inside in
    let size = checked_of-le h.code in
    let within : there.index < length h.code = omega (arith, inside, size) in
    ap (λ q. from_le_bytes w64 (bytes_at m q 8)) there.at.place ∙ home.code_is there.index within

pub thread_goes : (r : Rights) (K : List ℕ → Type 0) (n : ℕ) (t : Thread) (who : Who) (words m : List ℕ) → K m → ThreadLeft r K n t → Comes who (ThreadGoes r K n) (thread_plan t words) m
thread_goes r K n t who words m here left =
    thread_comes who (ThreadGoes r K n) (word left.there.home.code left.there.index) t words m (reads_word r K (λ code. has_loop code ≡ false) t m here left.there) (λ u uniforms. done_goes r K n t u uniforms words m here left)

-- a program that starts
unfoldable pub starts_at : (r : Rights) (K : List ℕ → Type 0) (S T : List ℕ → Type 0) (j : ℕ) (launch : Launch) → ((code : List ℕ) → S code → T code) → LaunchSo r K S launch → ThreadAt r K T (thread_of j launch)
unfolding thread_of
starts_at r K S T j launch goes starts =
    record { home = starts.home; so = goes starts.home.code starts.so; stands = starts.stands; index = 0; at = (starts_stand_law starts.home j launch starts.code starts.uniforms starts.threaded).at }

pub thread_begins : (r : Rights) (K : List ℕ → Type 0) (w j : ℕ) (launch : Launch) → LaunchSo r K (IsShort w) launch → ThreadLeft r K w (thread_of j launch)
unfolding steps_before starts_at
thread_begins r K w j launch short =
    let steps = short.so.short in
    record { there = starts_at r K (IsShort w) (λ code. has_loop code ≡ false) j launch (λ code is. is.no_loop) short; left = omega (arith, steps) }
