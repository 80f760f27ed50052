-- At most one instruction made what is in a register.
use Rattle.std.proofs.Common.{◌≡◌, ◌<◌, ◌+◌, ℕ, Bool, true, false, not, ◌&&◌, List, Option, Some, None, if◌then◌else◌, refl, sym, ap, subst, inl, inr, arith, ◌∙◌, nat_lt}
use Rattle.std.proofs.lemmas.Bool.{cases_order, cases_Bool, and_parts, and_from, not-true, true≢false, ltb-true, false_from_ne_true}
use Rattle.qpu_isa.specs.Terms.{names, sets_alone, is_accumulator, is_load_imm, has_small, loaded_value, is_max_with_zero}
use Rattle.qpu_isa.specs.declared.inst.Reg.{Reg}
use Rattle.shader_flow.specs.{Bounded.some_in, Flow.word, Flow.checked_of, Flow.is_target, Pending.count_of}
use Rattle.shader_flow.proofs.Bounded.{some_in_none, some_in_not, last_below_one, last_below_found}
use Rattle.clamp_facts.specs.Facts.{sets, stays, switches_between, maker_of, is_delayed, carries, if_readable, carrier_of, makes_clamp, fact_of_write, fact_made, fact_by, fact_at, is_max_at, is_not_negative}
use Rattle.clamp_facts.specs.{declared.fact.Fact.TheVariants.Nothing, Readings.is_from_zero, Readings.value_in}
use Rattle.clamp_facts.specs.Upkeep.{IsLastNaming, IsCarrier}

-- what sets a register alone names it
pub alone_names : (w : ℕ) (reg : Reg) → sets_alone w reg ≡ true → names w reg ≡ true
unfolding sets_alone names
alone_names w reg sets-it = grind (arith, sets-it)

pub sets_parts : (code : List ℕ) (j : ℕ) (reg : Reg) → sets code j reg ≡ true → (j < checked_of code) × (sets_alone (word code j) reg ≡ true)
unfolding sets
sets_parts code j reg is =
    let both = and_parts (nat_lt j (checked_of code)) (sets_alone (word code j) reg) is in
    (ltb-true j (checked_of code) both.0, both.1)

pub sets_names : (code : List ℕ) (j : ℕ) (reg : Reg) → sets code j reg ≡ true → names (word code j) reg ≡ true
sets_names code j reg is = alone_names (word code j) reg (sets_parts code j reg is).1

-- what carries a fact sets the register, stays, and can be read
pub carried_parts : (code : List ℕ) (j i : ℕ) (reg : Reg) → carries code j i reg ≡ true
    → (sets code j reg ≡ true) × (stays code j i reg ≡ true) × (is_delayed j i reg ≡ false)
unfolding carries
carried_parts code j i reg carried =
    let both = and_parts (sets code j reg && stays code j i reg) (not (is_delayed j i reg)) carried in
    let front = and_parts (sets code j reg) (stays code j i reg) both.0 in
    (front.0, front.1, not-true (is_delayed j i reg) both.1)

-- nothing between names the register
pub stays_quiet : (code : List ℕ) (j i k : ℕ) (reg : Reg) → stays code j i reg ≡ true → j < k → k < i → names (word code k) reg ≡ false
unfolding stays
stays_quiet code j i k reg last after below =
    let parts = and_parts (not (some_in (j + 1) i (λ m. names (word code m) reg)))
    (not (some_in (j + 1) (i + 1) (is_target code)) && not (is_accumulator reg && switches_between code j i)) last in
    some_in_not (j + 1) i k (λ m. names (word code m) reg) (not-true (some_in (j + 1) i (λ m. names (word code m) reg)) parts.0) (omega (arith, after)) below

-- so two that set it and stay are one
pub maker_one : (code : List ℕ) (j k i : ℕ) (reg : Reg) → j < i → k < i → sets code j reg ≡ true → stays code j i reg ≡ true
    → sets code k reg ≡ true → stays code k i reg ≡ true → k ≡ j
maker_one code j k i reg below1 below2 sets1 stays1 sets2 stays2 =
    elim (cases_order k j) [
      | inl same ↦ same
      | inr (inl less) ↦ absurd (true≢false (sym (sets_names code j reg sets1) ∙ stays_quiet code k i j reg stays2 less below1))
      | inr (inr more) ↦ absurd (true≢false (sym (sets_names code k reg sets2) ∙ stays_quiet code j i k reg stays1 more below2))
    ]

pub carrier_one : (code : List ℕ) (j k i : ℕ) (reg : Reg) → j < i → k < i → carries code j i reg ≡ true → carries code k i reg ≡ true → k ≡ j
carrier_one code j k i reg below1 below2 first second =
    let one = carried_parts code j i reg first in
    let two = carried_parts code k i reg second in
    maker_one code j k i reg below1 below2 one.0 one.1 two.0 two.1

-- where the instruction is the last that names the register, nothing between does
pub stays_last : (code : List ℕ) (j i : ℕ) (reg : Reg) → IsLastNaming code j i reg
    → stays code j i reg ≡ (not (some_in (j + 1) (i + 1) (is_target code)) && not (is_accumulator reg && switches_between code j i))
unfolding stays
stays_last code j i reg last =
    ap (λ b. not b && (not (some_in (j + 1) (i + 1) (is_target code)) && not (is_accumulator reg && switches_between code j i)))
    (some_in_none (j + 1) i (λ k. names (word code k) reg) (λ k from below. last.after k (omega (arith, from)) below))

-- where nothing names the register, nothing is known of it
pub none_carried : (code : List ℕ) (i : ℕ) (reg : Reg) → ((k : ℕ) → k < i → names (word code k) reg ≡ false) → (j : ℕ) → j < i → carries code j i reg ≡ false
none_carried code i reg none j below =
    false_from_ne_true (carries code j i reg)
    (λ carried. true≢false (sym (sets_names code j reg (carried_parts code j i reg carried).0) ∙ none j below))

-- where the last that names it carries nothing, nothing does
pub last_not_carried : (code : List ℕ) (j i : ℕ) (reg : Reg) → IsLastNaming code j i reg → carries code j i reg ≡ false
    → (k : ℕ) → k < i → carries code k i reg ≡ false
last_not_carried code j i reg last none k below =
    false_from_ne_true (carries code k i reg)
    (λ carried.
    let parts = carried_parts code k i reg carried in
    elim (cases_order k j) [
      | inl same ↦ true≢false (sym carried ∙ subst (λ m. carries code m i reg ≡ false) (sym same) none)
      | inr (inl less) ↦ true≢false (sym last.named ∙ stays_quiet code k i j reg parts.1 less last.below)
      | inr (inr more) ↦ true≢false (sym (sets_names code k reg parts.0) ∙ last.after k more below)
    ])

-- who made what stands there
pub maker_is : (code : List ℕ) (j i : ℕ) (reg : Reg) → j < i → sets code j reg ≡ true → stays code j i reg ≡ true → maker_of code i reg ≡ Some j
unfolding maker_of
maker_is code j i reg below sets-it stays-on =
    last_below_one i j (λ k. sets code k reg && stays code k i reg) below (and_from (sets code j reg) (stays code j i reg) sets-it stays-on)
    (λ k after k-below. false_from_ne_true (sets code k reg && stays code k i reg)
    (λ both.
    let parts = and_parts (sets code k reg) (stays code k i reg) both in
    let same = maker_one code j k i reg below k-below sets-it stays-on parts.0 parts.1 in
    omega (arith, same, after)))

pub maker_found : (code : List ℕ) (j i : ℕ) (reg : Reg) → maker_of code i reg ≡ Some j → (j < i) × (sets code j reg ≡ true) × (stays code j i reg ≡ true)
unfolding maker_of
maker_found code j i reg is =
    let found = last_below_found i j (λ k. sets code k reg && stays code k i reg) is in
    let parts = and_parts (sets code j reg) (stays code j i reg) found.1 in
    (found.0, parts.0, parts.1)

-- and who carries
pub carrier_is : (code : List ℕ) (j i : ℕ) (reg : Reg) → IsCarrier code j i reg → carrier_of code i reg ≡ Some j
unfolding carrier_of
carrier_is code j i reg one =
    let parts = carried_parts code j i reg one.carried in
    ap (if_readable i reg) (maker_is code j i reg one.below parts.0 parts.1) ∙ ap (λ b. if b then None else Some j) parts.2

pub readable_found : (o : Option ℕ) (i j : ℕ) (reg : Reg) → if_readable i reg o ≡ Some j → (o ≡ Some j) × (is_delayed j i reg ≡ false)
readable_found None i j reg is = cc
readable_found (Some k) i j reg is =
    elim (cases_Bool (is_delayed k i reg)) [
      | inl late ↦ (let none = sym (ap (λ b. if b then None else Some k) late) ∙ is in cc)
      | inr ready ↦
          (let e : ◌≡◌ {A = Option ℕ} (Some k) (Some j) = sym (ap (λ b. if b then None else Some k) ready) ∙ is in
          let same : k ≡ j = cc in
          (e, subst (λ m. is_delayed m i reg ≡ false) same ready))
    ]

pub carrier_found : (code : List ℕ) (j i : ℕ) (reg : Reg) → carrier_of code i reg ≡ Some j → IsCarrier code j i reg
unfolding carrier_of carries
carrier_found code j i reg is =
    let read = readable_found (maker_of code i reg) i j reg is in
    let parts = maker_found code j i reg read.0 in
    record {
      below = parts.0;
      carried = and_from (sets code j reg && stays code j i reg) (not (is_delayed j i reg)) (and_from (sets code j reg) (stays code j i reg) parts.1 parts.2) (ap not read.1);
    }

-- nobody carries
pub carrier_none : (code : List ℕ) (i : ℕ) (reg : Reg) → ((j : ℕ) → j < i → carries code j i reg ≡ false) → (o : Option ℕ) → carrier_of code i reg ≡ o → o ≡ None
carrier_none code i reg none None is = refl
carrier_none code i reg none (Some j) is =
    let one = carrier_found code j i reg is in
    absurd (true≢false (sym one.carried ∙ none j one.below))

-- What is known, by who carries.
pub fact_none : (code : List ℕ) (i : ℕ) (reg : Reg) → None ≡ carrier_of code i reg → fact_at code i reg ≡ Nothing
unfolding fact_at
fact_none code i reg is = ap (fact_by code) (sym is)

pub fact_some : (code : List ℕ) (j i : ℕ) (reg : Reg) → Some j ≡ carrier_of code i reg → fact_at code i reg ≡ fact_of_write code j
unfolding fact_at
fact_some code j i reg is = ap (fact_by code) (sym is)

-- a load is no `max`
pub load_or_max : (w value : ℕ) → loaded_value w ≡ Some value → is_max_with_zero w ≡ false
unfolding loaded_value is_max_with_zero is_load_imm has_small
load_or_max w value loads = grind (arith, loads)

pub value_made : (loaded : Option ℕ) (max clamp : Bool) (k at : ℕ) → value_in (fact_made loaded max clamp k at) ≡ loaded
value_made (Some value) max clamp k at = refl
value_made None true clamp k at = refl
value_made None false true k at = refl
value_made None false false k at = refl

pub zero_made : (loaded : Option ℕ) (max clamp : Bool) (k at : ℕ) → ((value : ℕ) → loaded ≡ Some value → max ≡ false)
    → is_from_zero (fact_made loaded max clamp k at) ≡ max
zero_made (Some value) max clamp k at apart = sym (apart value refl)
zero_made None true clamp k at apart = refl
zero_made None false true k at apart = refl
zero_made None false false k at apart = refl

pub value_of_made : (code : List ℕ) (j : ℕ) → value_in (fact_of_write code j) ≡ loaded_value (word code j)
unfolding fact_of_write
value_of_made code j = value_made (loaded_value (word code j)) (is_max_with_zero (word code j)) (makes_clamp code j) (count_of code j) j

pub zero_of_made : (code : List ℕ) (j : ℕ) → is_from_zero (fact_of_write code j) ≡ is_max_with_zero (word code j)
unfolding fact_of_write
zero_of_made code j =
    zero_made (loaded_value (word code j)) (is_max_with_zero (word code j)) (makes_clamp code j) (count_of code j) j
    (λ value loads. load_or_max (word code j) value loads)

pub not_negative_by : (code : List ℕ) (o : Option ℕ) → is_from_zero (fact_by code o) ≡ is_max_at code o
not_negative_by code None = refl
not_negative_by code (Some j) = zero_of_made code j

-- the table's reading is the definition
pub not_negative_is : (code : List ℕ) (i : ℕ) (reg : Reg) → is_from_zero (fact_at code i reg) ≡ is_not_negative code i reg
unfolding fact_at is_not_negative
not_negative_is code i reg = not_negative_by code (carrier_of code i reg)
