-- The clamp that holds, and what is known by it.
use Rattle.std.proofs.Common.{◌≡◌, ℕ, Bool, true, false, ◌&&◌, List, Option, Some, None, refl, sym, ap, subst, ◌∙◌, nat_lt}
use Rattle.std.proofs.lemmas.Bool.{and_parts, and_from, true≢false, lt-ltb, ltb-true, false_from_ne_true}
use Rattle.std.proofs.{Common.arith, lemmas.Bool.Decides.nat_tests}
use Rattle.clamp_facts.specs.Facts.{carries, carrier_of, clamps, makes_clamp, is_not_negative, fact_of_write, fact_made, fact_by, fact_at, is_clamped}
use Rattle.clamp_facts.specs.{declared.fact.Fact.TheVariants.Clamped, Readings.clamp_in, Readings.has_bound, Upkeep.IsCarrier}
use Rattle.qpu_isa.specs.Terms.{first_register, passes, is_alu, is_load_imm, has_small, loaded_value, is_max_with_zero, is_min_with_uniform}
use Rattle.qpu_isa.specs.declared.inst.Reg.{Reg}
use Rattle.shader_flow.specs.{Flow.word, Pending.count_of}
use Rattle.clamp_facts.proofs.Carriers.{carrier_one, carrier_is, carrier_found}

pub clamps_one : (code : List ℕ) (j i : ℕ) (reg : Reg) → IsCarrier code j i reg → makes_clamp code j ≡ true → clamps code j i reg ≡ true
unfolding clamps
clamps_one code j i reg one clamp =
    and_from (nat_lt j i) (carries code j i reg && makes_clamp code j) (lt-ltb j i one.below) (and_from (carries code j i reg) (makes_clamp code j) one.carried clamp)

pub clamps_parts : (code : List ℕ) (j i : ℕ) (reg : Reg) → clamps code j i reg ≡ true → IsCarrier code j i reg × (makes_clamp code j ≡ true)
unfolding clamps
clamps_parts code j i reg clamp =
    let both = and_parts (nat_lt j i) (carries code j i reg && makes_clamp code j) clamp in
    let rest = and_parts (carries code j i reg) (makes_clamp code j) both.1 in
    (record { below = ltb-true j i both.0; carried = rest.0 }, rest.1)

-- nobody carries, so none clamps
pub clamps_none : (code : List ℕ) (i : ℕ) (reg : Reg) → None ≡ carrier_of code i reg → (j : ℕ) → clamps code j i reg ≡ false
clamps_none code i reg none j =
    false_from_ne_true (clamps code j i reg)
    (λ clamp. let is = none ∙ carrier_is code j i reg (clamps_parts code j i reg clamp).0 in cc)

-- the carrier makes no clamp, so none does
pub clamps_not : (code : List ℕ) (j i : ℕ) (reg : Reg) → IsCarrier code j i reg → makes_clamp code j ≡ false → (k : ℕ) → clamps code k i reg ≡ false
clamps_not code j i reg one none k =
    false_from_ne_true (clamps code k i reg)
    (λ clamp.
    let parts = clamps_parts code k i reg clamp in
    let same = carrier_one code j k i reg one.below parts.0.below one.carried parts.0.carried in
    true≢false (sym parts.1 ∙ subst (λ m. makes_clamp code m ≡ false) (sym same) none))

-- at most one clamp holds
pub clamp_one : (code : List ℕ) (j k i : ℕ) (reg : Reg) → clamps code j i reg ≡ true → clamps code k i reg ≡ true → k ≡ j
clamp_one code j k i reg first second =
    let one = clamps_parts code j i reg first in
    let two = clamps_parts code k i reg second in
    carrier_one code j k i reg one.0.below two.0.below one.0.carried two.0.carried

-- a minimum is no load and no `max`
pub min_alone : (w : ℕ) → is_min_with_uniform w ≡ true → (loaded_value w ≡ None) × (is_max_with_zero w ≡ false)
unfolding is_min_with_uniform loaded_value is_max_with_zero is_alu is_load_imm has_small
min_alone w min = (grind (arith, nat_tests, min), grind (arith, nat_tests, min))

pub clamp_min : (code : List ℕ) (j : ℕ) → makes_clamp code j ≡ true → is_min_with_uniform (word code j) ≡ true
unfolding makes_clamp
clamp_min code j clamp = (and_parts (is_min_with_uniform (word code j)) (passes (first_register (word code j)) (is_not_negative code j)) clamp).0

pub made_clamp : (code : List ℕ) (j : ℕ) → makes_clamp code j ≡ true → fact_of_write code j ≡ Clamped (count_of code j) j
unfolding fact_of_write
made_clamp code j clamp =
    let alone = min_alone (word code j) (clamp_min code j clamp) in
    ap (λ o. fact_made o (is_max_with_zero (word code j)) (makes_clamp code j) (count_of code j) j) alone.0
    ∙ (ap (λ b. fact_made None b (makes_clamp code j) (count_of code j) j) alone.1
    ∙ ap (λ b. fact_made None false b (count_of code j) j) clamp)

pub clamp_of_made : (code : List ℕ) (j : ℕ) → makes_clamp code j ≡ true → clamp_in (fact_of_write code j) ≡ Some j
clamp_of_made code j clamp = ap clamp_in (made_clamp code j clamp)

pub no_clamp : (loaded : Option ℕ) (max : Bool) (k at : ℕ) → clamp_in (fact_made loaded max false k at) ≡ None
no_clamp (Some value) max k at = refl
no_clamp None true k at = refl
no_clamp None false k at = refl

pub no_clamp_made : (code : List ℕ) (j : ℕ) → makes_clamp code j ≡ false → clamp_in (fact_of_write code j) ≡ None
unfolding fact_of_write
no_clamp_made code j none =
    ap (λ b. clamp_in (fact_made (loaded_value (word code j)) (is_max_with_zero (word code j)) b (count_of code j) j)) none
    ∙ no_clamp (loaded_value (word code j)) (is_max_with_zero (word code j)) (count_of code j) j

-- a fact with a bound is by a clamp that holds
pub bound_by : (loaded : Option ℕ) (max clamp : Bool) (k at : ℕ) → has_bound (fact_made loaded max clamp k at) ≡ true
    → (clamp ≡ true) × (fact_made loaded max clamp k at ≡ Clamped k at)
bound_by (Some value) max clamp k at bound = cc
bound_by None true clamp k at bound = cc
bound_by None false true k at bound = (refl, refl)
bound_by None false false k at bound = cc

pub bound_made : (code : List ℕ) (j : ℕ) → has_bound (fact_of_write code j) ≡ true → (makes_clamp code j ≡ true) × (fact_of_write code j ≡ Clamped (count_of code j) j)
unfolding fact_of_write
bound_made code j bound = bound_by (loaded_value (word code j)) (is_max_with_zero (word code j)) (makes_clamp code j) (count_of code j) j bound

pub bound_found : (code : List ℕ) (i : ℕ) (reg : Reg) (o : Option ℕ) → carrier_of code i reg ≡ o → has_bound (fact_by code o) ≡ true
    → (j : ℕ) × (clamps code j i reg ≡ true) × (fact_by code o ≡ Clamped (count_of code j) j)
bound_found code i reg None is bound = cc
bound_found code i reg (Some j) is bound =
    let both = bound_made code j bound in
    (j, clamps_one code j i reg (carrier_found code j i reg is) both.0, both.1)

pub clamped_found : (code : List ℕ) (i : ℕ) (reg : Reg) → is_clamped code i reg ≡ true
    → (j : ℕ) × (clamps code j i reg ≡ true) × (fact_at code i reg ≡ Clamped (count_of code j) j)
unfolding is_clamped fact_at
clamped_found code i reg clamped = bound_found code i reg (carrier_of code i reg) refl clamped
