-- Where a thread goes, and what its marks say then.
use Rattle.std.proofs.Common.{◌≡◌, ◌<◌, ◌≤◌, ℕ, ◌+◌, false, List, length, arith, refl, inl, inr, ◌-◌, Bool, ◌&&◌, ◌||◌, sym, ap, ◌∙◌, ◌≢◌, ◌⊎◌, zero, suc, ◌*◌, ◌/◌, ◌%◌, ◌^◌, true, ◌==◌, not, [], ◌∷◌, Option, Some, None, subst, nat_lt, nat_le, if◌then◌else◌, rules}
use Rattle.std.proofs.lemmas.Bool.{or_from, or_parts, le-leb, and_from, or_left, or_right, or_cases, cases_Bool, eqb-true, false_from_ne_true, true≢false, not-false, not_from_false, and_parts, lt-ltb, not_from_true}
use Rattle.std.proofs.lemmas.{Grind.common_steps, Bool.Decides.nat_tests}
use Rattle.field_words.specs.Questions.{each, with_answers}
use Rattle.field_words.proofs.{Questions.none_broken, Nones.front_none, Nones.rest_none, Nones.each_none, Nones.none_answered}
use Rattle.shader_flow.specs.Flow.{end_of, checked_of, word, in_slots, after_switch, is_target, makes_target, is_sound_branch, leads_outside, is_threaded}
use Rattle.shader_flow.specs.Rules.{s3, s4, s5, s6, s7, s8, s9, s10, s11, s12, s13, s27}
use Rattle.shader_flow.specs.{Bounded.is_back, Bounded.some_below, Pending.takes}
use Rattle.uniform_stream.specs.Rules.{s14, s15, s17, s18, s19, s20, s21, s22, s23, s25, after_address_write, is_full}
use Rattle.shader_check.specs.Rules.{s2, s16, s24, s26, index_questions, questions_at, fault_at, whole_questions, shader_questions, uses_upper}
use Rattle.qpu_law.specs.Home.{HasNoFault, thread_readied, turn_done, Home, IsQuiet, MarkIs, IsAt, IsExact, IsRoot, IsBlank, GoesTo, StaysInCode, ArePending, NeverWild}
use Rattle.std.specs.Prelude.{unwrap_or}
use Rattle.qpu_isa.specs.Terms.{is_branch, is_switch, is_address_write, is_end, target_of, reads_upper, names_upper}
use Rattle.qpu_isa.specs.{Setups.setups_kept, Word.cond_add_of, Word.cond_mul_of, Word.imm_of, Word.cond_of}
use Rattle.qpu_machine.specs.Writes.{awake, written_at, after_add, after_multiply, after_writes, after_setup, after_load, went_on, after_work, led_to, fate_of, after_rest, ask_made, pointer_after, add_address, mul_address}
use Rattle.qpu_machine.specs.declared.state.Fate.TheVariants.{Ends, Switches, GoesOn}
use Rattle.qpu_machine.specs.declared.state.{Thread.Thread, Mark.Mark}
use Rattle.qpu_machine.specs.{Operands.add_row, Operands.mul_row, Row.mask_of, Step.executed_with, Step.turn_executed}
use Rattle.shader_flow.proofs.Bounded.{some_below_here, some_below_found, some_below_not}
use Rattle.machine_plan.specs.Choice.{word_at}
use Rattle.qpu_machine.specs.Wild as wild

-- Where no rule is broken, what follows of a checked instruction.

-- no rule is broken at the instruction
pub record IsFineAt (code : List ℕ) (i : ℕ) : Type 0 where
  pub no3 : s3 code i ≡ false
  pub no4 : s4 code i ≡ false
  pub no5 : s5 code i ≡ false
  pub no6 : s6 code i ≡ false
  pub no7 : s7 code i ≡ false
  pub no8 : s8 code i ≡ false
  pub no9 : s9 code i ≡ false
  pub no10 : s10 code i ≡ false
  pub no11 : s11 code i ≡ false
  pub no12 : s12 code i ≡ false
  pub no13 : s13 code i ≡ false
  pub no14 : s14 code i ≡ false
  pub no15 : s15 code i ≡ false
  pub no16 : s16 code i ≡ false
  pub no17 : s17 code i ≡ false
  pub no18 : s18 code i ≡ false
  pub no19 : s19 code i ≡ false
  pub no20 : s20 code i ≡ false
  pub no21 : s21 code i ≡ false
  pub no22 : s22 code i ≡ false
  pub no23 : s23 code i ≡ false
  pub no24 : s24 code i ≡ false
  pub no25 : s25 code i ≡ false
  pub no27 : s27 code i ≡ false

pub fine_at : (code : List ℕ) → HasNoFault code → (i : ℕ) → i < checked_of code → IsFineAt code i
unfolding shader_questions questions_at index_questions
fine_at code none i inside =
    let all = front_none (each (questions_at code) 0 (checked_of code)) (with_answers (fault_at (length code)) (whole_questions code)) none in
    let here = each_none (questions_at code) 0 (checked_of code) i all (omega arith) (omega (arith, inside)) in
    let r3 = none_broken (index_questions code i) (none_answered (fault_at i) (index_questions code i) here) in
    record {
      no3 = r3.0;
      no4 = r3.1.0;
      no5 = r3.1.1.0;
      no6 = r3.1.1.1.0;
      no7 = r3.1.1.1.1.0;
      no8 = r3.1.1.1.1.1.0;
      no9 = r3.1.1.1.1.1.1.0;
      no10 = r3.1.1.1.1.1.1.1.0;
      no11 = r3.1.1.1.1.1.1.1.1.0;
      no12 = r3.1.1.1.1.1.1.1.1.1.0;
      no13 = r3.1.1.1.1.1.1.1.1.1.1.0;
      no14 = r3.1.1.1.1.1.1.1.1.1.1.1.0;
      no15 = r3.1.1.1.1.1.1.1.1.1.1.1.1.0;
      no16 = r3.1.1.1.1.1.1.1.1.1.1.1.1.1.0;
      no17 = r3.1.1.1.1.1.1.1.1.1.1.1.1.1.1.0;
      no18 = r3.1.1.1.1.1.1.1.1.1.1.1.1.1.1.1.0;
      no19 = r3.1.1.1.1.1.1.1.1.1.1.1.1.1.1.1.1.0;
      no20 = r3.1.1.1.1.1.1.1.1.1.1.1.1.1.1.1.1.1.0;
      no21 = r3.1.1.1.1.1.1.1.1.1.1.1.1.1.1.1.1.1.1.0;
      no22 = r3.1.1.1.1.1.1.1.1.1.1.1.1.1.1.1.1.1.1.1.0;
      no23 = r3.1.1.1.1.1.1.1.1.1.1.1.1.1.1.1.1.1.1.1.1.0;
      no24 = r3.1.1.1.1.1.1.1.1.1.1.1.1.1.1.1.1.1.1.1.1.1.0;
      no25 = r3.1.1.1.1.1.1.1.1.1.1.1.1.1.1.1.1.1.1.1.1.1.1.0;
      no27 = r3.1.1.1.1.1.1.1.1.1.1.1.1.1.1.1.1.1.1.1.1.1.1.1.0;
    }

-- no rule on the whole shader is broken
pub record IsFineWhole (code : List ℕ) : Type 0 where
  pub no2 : s2 code ≡ false
  pub no26 : s26 code ≡ false

pub fine_whole : (code : List ℕ) → HasNoFault code → IsFineWhole code
unfolding shader_questions whole_questions
fine_whole code none = search (rules, arith, rest_none, none_broken, none_answered)

-- so the code has the two instructions after the program end
pub end_inside : (code : List ℕ) → HasNoFault code → end_of code + 2 < length code
unfolding s2
end_inside code none = let no2 : s2 code ≡ false = (fine_whole code none).no2 in grind (arith, no2)

pub checked_is : (code : List ℕ) → HasNoFault code → checked_of code ≡ end_of code + 3
unfolding checked_of
checked_is code none = omega (arith, end_inside code none)

pub in_checked : (code : List ℕ) (n : ℕ) → HasNoFault code → n ≤ end_of code + 2 → n < checked_of code
in_checked code n none inside = omega (arith, checked_is code none, inside)

-- What one instruction leaves alone, field by field.

-- whose, where, and its marks
pub record IsWent (word : ℕ) (words : List ℕ) (t next : Thread) : Type 0 where
  pub job : next.job ≡ t.job
  pub threaded : next.threaded ≡ t.threaded
  pub place : next.place ≡ unwrap_or t.last3.to (t.place + 8)
  pub last1 : next.last1 ≡ record { word = word; to = led_to word words t.place }
  pub last2 : next.last2 ≡ t.last1
  pub last3 : next.last3 ≡ t.last2

pub is_went : (word uniform uniforms : ℕ) (words : List ℕ) (t : Thread) → IsWent word words t (turn_done word uniform uniforms words t).thread
unfolding awake turn_executed executed_with after_rest after_work went_on after_load after_setup after_writes after_multiply after_add written_at
is_went word uniform uniforms words t = record { job = refl; threaded = refl; place = refl; last1 = refl; last2 = refl; last3 = refl }

-- the setup words
pub setups0_are : (word uniform uniforms : ℕ) (words : List ℕ) (t : Thread) → (turn_done word uniform uniforms words t).thread.setups0.items ≡ setups_kept word 0 uniform t.setups0.items
unfolding awake turn_executed executed_with after_rest after_work went_on after_load after_setup after_writes after_multiply after_add written_at
setups0_are word uniform uniforms words t = refl

pub setups1_are : (word uniform uniforms : ℕ) (words : List ℕ) (t : Thread) → (turn_done word uniform uniforms words t).thread.setups1.items ≡ setups_kept word 1 uniform t.setups1.items
unfolding awake turn_executed executed_with after_rest after_work went_on after_load after_setup after_writes after_multiply after_add written_at
setups1_are word uniform uniforms words t = refl

-- the fate is by the instruction two before
pub fate_is : (word uniform uniforms : ℕ) (words : List ℕ) (t : Thread) → (turn_done word uniform uniforms words t).leaves.fate ≡ fate_of t
unfolding awake turn_executed executed_with fate_of
fate_is word uniform uniforms words t = refl

-- the request, by what the two units came to
pub asked_is : (word uniform uniforms : ℕ) (words : List ℕ) (t : Thread)
    → (turn_done word uniform uniforms words t).leaves.asked
    ≡ ask_made word uniform (add_row (thread_readied uniforms words t) word uniform words) (mul_row (thread_readied uniforms words t) word uniform words) (thread_readied uniforms words t)
unfolding turn_executed executed_with
asked_is word uniform uniforms words t = refl

-- the uniform pointer
pub uniforms_are : (word uniform uniforms : ℕ) (words : List ℕ) (t : Thread)
    → (turn_done word uniform uniforms words t).thread.uniforms
    ≡ pointer_after (mul_address word) (mask_of (cond_mul_of word) words 16) (mul_row (thread_readied uniforms words t) word uniform words)
    (pointer_after (add_address word) (mask_of (cond_add_of word) words 0) (add_row (thread_readied uniforms words t) word uniform words) uniforms)
unfolding awake turn_executed executed_with after_rest after_work went_on after_load after_setup after_writes after_multiply after_add written_at
uniforms_are word uniform uniforms words t = refl

-- What marks say.

back_here : (n k : ℕ) (test : ℕ → Bool) → k ≤ n → is_back n k test ≡ false → test (n - k) ≡ false
unfolding is_back
back_here n k test back none = sym (ap (λ b. b && test (n - k)) (le-leb k n back)) ∙ none

-- Where a quiet word fails a test, and the instruction k places before fails it, the mark's word fails it.
pub mark_not : (place : ℕ) (code : List ℕ) (n k : ℕ) (m : Mark) (test : ℕ → Bool) → MarkIs place code n k m
    → (IsQuiet m.word → test m.word ≡ false) → is_back n k (λ j. test (word code j)) ≡ false → test m.word ≡ false
mark_not place code n k m test h6 quiet none = search (rules, arith, back_here)

pub no_slots : (h : Home) (n : ℕ) (t : Thread) → IsAt h n t → in_slots h.code n ≡ false → wild.in_slots t ≡ false
unfolding in_slots wild.in_slots
no_slots h n t at none =
    let test : ℕ → Bool = λ k. is_branch (word h.code k) in
    let three = or_parts (is_back n 1 test) (is_back n 2 test || is_back n 3 test) none in
    let two = or_parts (is_back n 2 test) (is_back n 3 test) three.1 in
    or_from (is_branch t.last1.word) (is_branch t.last2.word || is_branch t.last3.word)
    (mark_not h.place h.code n 1 t.last1 is_branch at.mark1 (λ q. q.branch) three.0)
    (or_from (is_branch t.last2.word) (is_branch t.last3.word)
    (mark_not h.place h.code n 2 t.last2 is_branch at.mark2 (λ q. q.branch) two.0)
    (mark_not h.place h.code n 3 t.last3 is_branch at.mark3 (λ q. q.branch) two.1))

pub no_switch : (h : Home) (n : ℕ) (t : Thread) → IsAt h n t → after_switch h.code n ≡ false → wild.after_switch t ≡ false
unfolding after_switch wild.after_switch
no_switch h n t at none =
    let test : ℕ → Bool = λ k. is_switch (word h.code k) in
    let two = or_parts (is_back n 1 test) (is_back n 2 test) none in
    or_from (is_switch t.last1.word) (is_switch t.last2.word)
    (mark_not h.place h.code n 1 t.last1 is_switch at.mark1 (λ q. q.switch) two.0)
    (mark_not h.place h.code n 2 t.last2 is_switch at.mark2 (λ q. q.switch) two.1)

pub no_address : (h : Home) (n : ℕ) (t : Thread) → IsAt h n t → after_address_write h.code n ≡ false
    → (is_address_write t.last1.word || is_address_write t.last2.word) ≡ false
unfolding after_address_write
no_address h n t at none =
    let test : ℕ → Bool = λ k. is_address_write (word h.code k) in
    let two = or_parts (is_back n 1 test) (is_back n 2 test) none in
    or_from (is_address_write t.last1.word) (is_address_write t.last2.word)
    (mark_not h.place h.code n 1 t.last1 is_address_write at.mark1 (λ q. q.address) two.0)
    (mark_not h.place h.code n 2 t.last2 is_address_write at.mark2 (λ q. q.address) two.1)

-- where the front test is true, what stands behind it is false
pub behind : (a b : Bool) → a ≡ true → (a && b) ≡ false → b ≡ false
behind a b is none = search (rules, arith)

-- where what stands behind is true, the front test is false
pub before : (a b : Bool) → b ≡ true → (a && b) ≡ false → a ≡ false
before a b is none = search (rules, arith)

-- The program end is the first one.
pub end_here : (code : List ℕ) → end_of code < length code → is_end (word code (end_of code)) ≡ true
unfolding end_of
end_here [] below = absurd (omega (arith, below))
end_here (first ∷ later) below =
    elim (cases_Bool (is_end first)) [
      | inl is ↦ ap (λ b. is_end (word (first ∷ later) (if b then 0 else suc (end_of later)))) is ∙ is
      | inr not-here ↦
          (let less : end_of later < length later = (let e : (if is_end first then 0 else suc (end_of later)) ≡ suc (end_of later) = ap (λ b. if b then 0 else suc (end_of later)) not-here in omega (arith, e, below)) in
          ap (λ b. is_end (word (first ∷ later) (if b then 0 else suc (end_of later)))) not-here ∙ end_here later less)
    ]

pub not_end : (code : List ℕ) (j : ℕ) → j < end_of code → is_end (word code j) ≡ false
unfolding end_of
not_end [] j below = absurd (omega (arith, below))
not_end (first ∷ later) zero below = search (rules, arith, false_from_ne_true)
not_end (first ∷ later) (suc j) below =
    elim (cases_Bool (is_end first)) [
      | inl is ↦ (let e : (if is_end first then 0 else suc (end_of later)) ≡ 0 = ap (λ b. if b then 0 else suc (end_of later)) is in let no : ⊥ = omega (arith, e, below) in absurd no)
      | inr not-here ↦ (let e : (if is_end first then 0 else suc (end_of later)) ≡ suc (end_of later) = ap (λ b. if b then 0 else suc (end_of later)) not-here in not_end later j (omega (arith, e, below)))
    ]

-- A branch's three slots lie before the program end.
pub branch_room : (code : List ℕ) (b : ℕ) → IsFineAt code b → is_branch (word code b) ≡ true → b + 4 ≤ end_of code
unfolding s9
branch_room code b fine is = let none : nat_lt (end_of code) (b + 4) ≡ false = behind (is_branch (word code b)) (nat_lt (end_of code) (b + 4)) is fine.no9 in grind (arith, none)

back_at : (b k : ℕ) (test : ℕ → Bool) → test b ≡ true → is_back (b + k) k test ≡ true
unfolding is_back
back_at b k test is = and_from (nat_le k (b + k)) (test (b + k - k)) (le-leb k (b + k) (omega arith)) (ap test (omega arith) ∙ is)

slots_at : (code : List ℕ) (b d : ℕ) → (d ≡ 1) ⊎ (d ≡ 2) ⊎ (d ≡ 3) → is_branch (word code b) ≡ true → in_slots code (b + d) ≡ true
unfolding in_slots
slots_at code b d h3 is = search (rules, arith, or_left, back_at, or_right)

which : (d : ℕ) → 0 < d → d ≤ 3 → (d ≡ 1) ⊎ (d ≡ 2) ⊎ (d ≡ 3)
which d some few = search (rules, arith)

-- Nothing in a branch's slots branches, switches, ends or writes the uniforms' address.
pub slot_quiet : (code : List ℕ) → HasNoFault code → (b j : ℕ) → b < checked_of code → is_branch (word code b) ≡ true → b < j → j ≤ b + 3 → IsQuiet (word code j)
unfolding s4 s13 s17
slot_quiet code none b j b_in is after near =
    let room : b + 4 ≤ end_of code = branch_room code b (fine_at code none b b_in) is in
    let fine = fine_at code none j (omega (arith, checked_is code none, room, near)) in
    let e : b + (j - b) ≡ j = omega (arith, after) in
    let slots : in_slots code j ≡ true = subst (λ i. in_slots code i ≡ true) e (slots_at code b (j - b) (which (j - b) (omega (arith, after)) (omega (arith, near))) is) in
    record {
      branch = before (is_branch (word code j)) (in_slots code j) slots fine.no4;
      switch = before (is_switch (word code j)) (in_slots code j || nat_lt (end_of code) (j + 3)) (or_left (in_slots code j) (nat_lt (end_of code) (j + 3)) slots) fine.no13;
      end = not_end code j (omega (arith, room, near));
      address = before (is_address_write (word code j)) (in_slots code j) slots fine.no17;
    }

-- A branch of a checked shader is sound.
pub branch_sound : (code : List ℕ) (b : ℕ) → IsFineAt code b → is_branch (word code b) ≡ true → is_sound_branch code b ≡ true
unfolding s5 s6 s7 s8 is_sound_branch
branch_sound code b fine is = grind (arith, common_steps, nat_tests, not-false, behind, and_from, not_from_false)

-- What a sound branch says.
pub record IsSound (code : List ℕ) (b : ℕ) : Type 0 where
  pub branch : is_branch (word code b) ≡ true
  pub whole : imm_of (word code b) % 8 ≡ 0
  pub inside : target_of (word code b) b ≤ end_of code

pub sound_says : (code : List ℕ) (b : ℕ) → is_sound_branch code b ≡ true → IsSound code b
unfolding is_sound_branch leads_outside
sound_says code b is = search (rules, arith, and_parts, eqb-true)

-- A target isn't past the program end.
pub target_inside : (code : List ℕ) → HasNoFault code → (i : ℕ) → is_target code i ≡ true → i ≤ end_of code
unfolding is_target makes_target
target_inside code none i is =
    let found = some_below_found (end_of code) (λ b. makes_target code b i) is in
    let b = found.0 in
    let b_in : b < checked_of code = omega (arith, checked_is code none, found.1) in
    let parts = and_parts (is_sound_branch code b) (i == b + 4 || i == target_of (word code b) b) found.2 in
    let sound = sound_says code b parts.0 in
    elim (or_cases (i == b + 4) (i == target_of (word code b) b) parts.1) [
      | inl on ↦ (let e : i ≡ b + 4 = eqb-true i (b + 4) on in omega (arith, e, branch_room code b (fine_at code none b b_in) sound.branch))
      | inr to ↦ (let e : i ≡ target_of (word code b) b = eqb-true i (target_of (word code b) b) to in omega (arith, e, sound.inside))
    ]

same_number : (i : ℕ) → (i == i) ≡ true
same_number i = grind (arith, common_steps)

-- A branch of a checked shader makes its target, and what comes after its slots, a target.
pub makes_it : (code : List ℕ) → HasNoFault code → (b : ℕ) → b < checked_of code → is_branch (word code b) ≡ true → is_target code (target_of (word code b) b) ≡ true
unfolding is_target makes_target
makes_it code none b b_in is =
    let i = target_of (word code b) b in
    let fine = fine_at code none b b_in in
    some_below_here (end_of code) b (λ k. makes_target code k i) (omega (arith, branch_room code b fine is))
    (and_from (is_sound_branch code b) (i == b + 4 || i == target_of (word code b) b) (branch_sound code b fine is)
    (or_right (i == b + 4) (i == target_of (word code b) b) (same_number i)))

pub makes_on : (code : List ℕ) → HasNoFault code → (b : ℕ) → b < checked_of code → is_branch (word code b) ≡ true → is_target code (b + 4) ≡ true
unfolding is_target makes_target
makes_on code none b b_in is =
    let fine = fine_at code none b b_in in
    some_below_here (end_of code) b (λ k. makes_target code k (b + 4)) (omega (arith, branch_room code b fine is))
    (and_from (is_sound_branch code b) (b + 4 == b + 4 || b + 4 == target_of (word code b) b) (branch_sound code b fine is)
    (or_left (b + 4 == b + 4) (b + 4 == target_of (word code b) b) (same_number (b + 4))))

-- The place that a branch leads to is that of its target.
place_of_target : (place b imm target last : ℕ) → imm % 8 ≡ 0 → target ≡ (b + 4 + imm / 8) % 2 ^ 29 → target ≤ last → place + 8 * (last + 1) ≤ 2 ^ 32
    → (place + 8 * b + 32 + imm) % 2 ^ 32 ≡ place + 8 * target
place_of_target place b imm target last whole is inside low = omega (arith, whole, is, inside, low)

led_none : (w : ℕ) (words : List ℕ) (place : ℕ) → is_branch w ≡ false → led_to w words place ≡ None
unfolding led_to
led_none w words place other = grind (arith, common_steps, nat_tests)

led_if : (b c : Bool) (q p : ℕ) → (if b && c then Some q else None) ≡ Some p → (b ≡ true) × (p ≡ q)
led_if b c q p is = search (rules, arith)

led_some : (w : ℕ) (words : List ℕ) (place p : ℕ) → led_to w words place ≡ Some p → (is_branch w ≡ true) × (p ≡ (place + 32 + imm_of w) % 2 ^ 32)
unfolding led_to
led_some w words place p is = led_if (is_branch w) (cond_of w == 15 || word_at words 81 % 2 == 1) ((place + 32 + imm_of w) % 2 ^ 32) p is

-- the mark of the instruction just executed
new_mark : (place : ℕ) (code : List ℕ) (n : ℕ) (words : List ℕ) (at : ℕ) → at ≡ place + 8 * n
    → IsExact place code (n + 1) 1 (record { word = word code n; to = led_to (word code n) words at })
new_mark place code n words at is = search (rules, arith, led_some)

-- a mark one place further back
older : (place : ℕ) (code : List ℕ) (n k : ℕ) (m : Mark) → MarkIs place code n k m → MarkIs place code (n + 1) (k + 1) m
older place code n k m h5 = search (rules, arith)

-- where the instruction is quiet, the mark says nothing
no_way : (m : Mark) (to : Option ℕ) → to ≡ m.to → is_branch m.word ≡ false → ((p : ℕ) → m.to ≡ Some p → is_branch m.word ≡ true) → m.to ≡ None
no_way m to is quiet leads = search (rules, arith, true≢false)

says_nothing : (place : ℕ) (code : List ℕ) (n k : ℕ) (m : Mark) → MarkIs place code n k m → (k ≤ n → IsQuiet (word code (n - k))) → IsQuiet m.word × (m.to ≡ None)
says_nothing place code n k m h5 quiet = search (rules, arith, no_way)

blank_at : (code : List ℕ) (to k : ℕ) (m : Mark) → is_target code to ≡ true → 0 < k → IsQuiet m.word × (m.to ≡ None) → IsBlank code to k m
blank_at code to k m target some nothing = search (rules, arith)

pub goes_on : (h : Home) (n : ℕ) (words : List ℕ) (t next : Thread) → HasNoFault h.code → IsAt h n t → n ≢ end_of h.code + 2 → t.last3.to ≡ None
    → IsWent (word h.code n) words t next → IsAt h (n + 1) next
goes_on h n words t next none at more stays went =
    let place : next.place ≡ t.place + 8 = went.place ∙ ap (λ o. unwrap_or o (t.place + 8)) stays in
    record {
      place = omega (arith, place, at.place);
      inside = (let limit = at.inside in omega (arith, limit, more));
      threaded = went.threaded ∙ at.threaded;
      mark1 = inl (subst (λ m. IsExact h.place h.code (n + 1) 1 m) (sym went.last1) (new_mark h.place h.code n words t.place at.place));
      mark2 = subst (λ m. MarkIs h.place h.code (n + 1) 2 m) (sym went.last2) (older h.place h.code n 1 t.last1 at.mark1);
      mark3 = subst (λ m. MarkIs h.place h.code (n + 1) 3 m) (sym went.last3) (older h.place h.code n 2 t.last2 at.mark2);
    }

-- the mark three back led somewhere: so a branch stands there
pub led_by : (h : Home) (n : ℕ) (t : Thread) (p : ℕ) → IsAt h n t → t.last3.to ≡ Some p → IsExact h.place h.code n 3 t.last3
led_by h n t p at led = search (rules, arith)

pub jumps : (h : Home) (n : ℕ) (words : List ℕ) (t next : Thread) (p : ℕ) → HasNoFault h.code → h.place + 8 * length h.code ≤ 2 ^ 32
    → IsAt h n t → t.last3.to ≡ Some p → IsWent (word h.code n) words t next → GoesTo h n t next
unfolding target_of
jumps h n words t next p none low at led went =
    let exact = led_by h n t p at led in
    let code = h.code in
    let b = n - 3 in
    let report = exact.leads p led in
    let branch : is_branch (word code b) ≡ true = sym (ap is_branch exact.is) ∙ report.0 in
    let b_in : b < checked_of code = omega (arith, in_checked code n none at.inside) in
    let fine = fine_at code none b b_in in
    let sound = sound_says code b (branch_sound code b fine branch) in
    let to = target_of (word code b) b in
    let target : is_target code to ≡ true = makes_it code none b b_in branch in
    let room : b + 4 ≤ end_of code = branch_room code b fine branch in
    let leads : p ≡ h.place + 8 * to =
    report.1 ∙ (ap (λ w. (h.place + 8 * b + 32 + imm_of w) % 2 ^ 32) exact.is
    ∙ place_of_target h.place b (imm_of (word code b)) to (end_of code) sound.whole refl sound.inside (omega (arith, low, end_inside code none))) in
    let quiet : (j : ℕ) → b < j → j ≤ b + 3 → IsQuiet (word code j) = λ j after near. slot_quiet code none b j b_in branch after near in
    let back = exact.back in
    let own : IsQuiet (word code n) = quiet n (omega (arith, back)) (omega (arith, back)) in
    let nothing1 : IsQuiet (word code n) × (led_to (word code n) words t.place ≡ None) = (own, led_none (word code n) words t.place own.branch) in
    let nothing2 = says_nothing h.place code n 1 t.last1 at.mark1 (λ k. quiet (n - 1) (omega (arith, back)) (omega (arith, back))) in
    let nothing3 = says_nothing h.place code n 2 t.last2 at.mark2 (λ k. quiet (n - 2) (omega (arith, back)) (omega (arith, back))) in
    record {
      to = to;
      way = inr (record {
        jump = record { from = exact.back; branch = branch; is = refl; target = target };
        led = p;
        led_is = led;
        none1 = ap (λ (m : Mark). m.to) went.last1 ∙ nothing1.1;
        none2 = ap (λ (m : Mark). m.to) went.last2 ∙ nothing2.1;
        none3 = ap (λ (m : Mark). m.to) went.last3 ∙ nothing3.1;
      });
      at = record {
        place = went.place ∙ (ap (λ o. unwrap_or o (t.place + 8)) led ∙ leads);
        inside = omega (arith, sound.inside);
        threaded = went.threaded ∙ at.threaded;
        mark1 = inr (subst (λ m. IsBlank code to 1 m) (sym went.last1)
            (blank_at code to 1 (record { word = word code n; to = led_to (word code n) words t.place }) target (omega arith) (own, led_none (word code n) words t.place own.branch)));
        mark2 = inr (subst (λ m. IsBlank code to 2 m) (sym went.last2)
            (blank_at code to 2 t.last1 target (omega arith) (says_nothing h.place code n 1 t.last1 at.mark1 (λ k. quiet (n - 1) (omega (arith, back)) (omega (arith, back))))));
        mark3 = inr (subst (λ m. IsBlank code to 3 m) (sym went.last3)
            (blank_at code to 3 t.last2 target (omega arith) (says_nothing h.place code n 2 t.last2 at.mark2 (λ k. quiet (n - 2) (omega (arith, back)) (omega (arith, back))))));
      };
    }

-- At the second instruction after the program end the thread ends.
root_inside : (code : List ℕ) → HasNoFault code → (root : ℕ) → IsRoot code root → root ≤ end_of code
root_inside code none root h3 = search (rules, arith, target_inside)

pub ends : (h : Home) (n : ℕ) (t : Thread) → HasNoFault h.code → IsAt h n t → n ≡ end_of h.code + 2 → fate_of t ≡ Ends
unfolding fate_of
ends h n t none at last =
    let end : is_end t.last2.word ≡ true =
    elim at.mark2 [
      | inl exact ↦ (let e : n - 2 ≡ end_of h.code = omega (arith, last) in ap is_end (exact.is ∙ ap (word h.code) e) ∙ end_here h.code (omega (arith, end_inside h.code none)))
      | inr blank ↦ (let inside = root_inside h.code none blank.root blank.is in let no : ⊥ = omega (arith, inside, blank.near, last) in absurd no)
    ] in
    ap (λ b. if b then Ends else (if is_switch t.last2.word then Switches else GoesOn)) end

-- The law: where the thread doesn't end, it is at a next instruction.
pub next_index : (h : Home) (n : ℕ) (words : List ℕ) (t next : Thread) → HasNoFault h.code → h.place + 8 * length h.code ≤ 2 ^ 32
    → IsAt h n t → fate_of t ≢ Ends → IsWent (word h.code n) words t next → (to : Option ℕ) → t.last3.to ≡ to → GoesTo h n t next
next_index h n words t next none low at lives went (Some p) led = jumps h n words t next p none low at led went
next_index h n words t next none low at lives went None stays =
    record { to = n + 1; way = inl refl; at = goes_on h n words t next none at (λ last. lives (ends h n t none at last)) stays went }

pub stays_in_code_law : StaysInCode
stays_in_code_law h n uniform uniforms words t none low at lives = search (rules, arith, next_index, fate_is, is_went)

-- No instruction of a checked shader is undefined.

-- the instruction is tame where its front test fails, or what stands behind it does
front : (a b : Bool) → (a ≡ true → b ≡ false) → (a && b) ≡ false
front a b later = search (rules, arith)

word_tame : (code : List ℕ) (n : ℕ) → IsFineAt code n → wild.is_word_wild (word code n) ≡ false
unfolding s3 s27 s14 s15 s20 s21 wild.is_word_wild wild.is_signal_wild wild.is_mode_wild wild.is_name_wild wild.is_tmu_wild
word_tame code n fine = grind (arith, common_steps, nat_tests, or_from)

branch_tame : (h : Home) (n : ℕ) (t : Thread) → IsFineAt h.code n → IsAt h n t → wild.is_branch_wild t (word h.code n) ≡ false
unfolding s4 s5 s6 s12 wild.is_branch_wild
branch_tame h n t fine at = search (rules, arith, front, or_from, behind, no_slots, no_switch)

switch_threads : (code : List ℕ) (n : ℕ) → n < checked_of code → is_switch (word code n) ≡ true → is_threaded code ≡ true
unfolding is_threaded
switch_threads code n inside is = some_below_here (checked_of code) n (λ k. is_switch (word code k)) inside is

switch_tame : (h : Home) (n : ℕ) (t : Thread) → n < checked_of h.code → IsFineAt h.code n → IsAt h n t → wild.is_switch_wild t (word h.code n) ≡ false
unfolding s11 s13 wild.is_switch_wild
switch_tame h n t inside fine at =
    let w = word h.code n in
    front (is_switch w) ((wild.after_switch t || wild.in_slots t) || not t.threaded)
    (λ is.
    let parts = or_parts (in_slots h.code n) (nat_lt (end_of h.code) (n + 3)) (behind (is_switch w) (in_slots h.code n || nat_lt (end_of h.code) (n + 3)) is fine.no13) in
    or_from (wild.after_switch t || wild.in_slots t) (not t.threaded)
    (or_from (wild.after_switch t) (wild.in_slots t)
    (no_switch h n t at (behind (is_switch w) (after_switch h.code n) is fine.no11))
    (no_slots h n t at parts.0))
    (not_from_true t.threaded (at.threaded ∙ switch_threads h.code n inside is)))

setup_tame : (h : Home) (n : ℕ) (t : Thread) → IsFineAt h.code n → ArePending h.code n t → wild.is_setup_wild t (word h.code n) ≡ false
unfolding s22 is_full wild.is_setup_wild
setup_tame h n t fine pending = grind (arith, common_steps, nat_tests)

register_tame : (h : Home) (n : ℕ) (t : Thread) → n < checked_of h.code → HasNoFault h.code → IsAt h n t → wild.is_register_wild t (word h.code n) ≡ false
unfolding s26 uses_upper wild.is_register_wild
register_tame h n t inside none at =
    let w = word h.code n in
    let whole : s26 h.code ≡ false = (fine_whole h.code none).no26 in
    front t.threaded (reads_upper w || names_upper w)
    (λ is. some_below_not (checked_of h.code) n (λ k. uses_upper (word h.code k))
    (behind (is_threaded h.code) (some_below (checked_of h.code) (λ k. uses_upper (word h.code k))) (sym at.threaded ∙ is) whole) inside)

-- an instruction takes a uniform where the rules say so
pub takes_same : (code : List ℕ) (n : ℕ) (t : Thread) → n < checked_of code → ArePending code n t → wild.takes_one t (word code n) ≡ takes code n
unfolding wild.takes_one takes
takes_same code n t inside pending = grind (arith, common_steps, nat_tests, lt-ltb)

uniform_tame : (h : Home) (n : ℕ) (t : Thread) → n < checked_of h.code → IsFineAt h.code n → IsAt h n t → ArePending h.code n t
    → wild.is_uniform_wild t (word h.code n) ≡ false
unfolding s18 wild.is_uniform_wild
uniform_tame h n t inside fine at pending = search (rules, arith, front, no_address, behind, takes_same)

pub never_wild : (h : Home) (n : ℕ) (t : Thread) → HasNoFault h.code → IsAt h n t → ArePending h.code n t → wild.is_wild t (word h.code n) ≡ false
unfolding wild.is_wild wild.is_order_wild wild.is_use_wild
never_wild h n t none at pending = search (rules, arith, in_checked, fine_at, or_from, word_tame, branch_tame, switch_tame, setup_tame, register_tame, uniform_tame)

pub never_wild_law : NeverWild
never_wild_law = never_wild
