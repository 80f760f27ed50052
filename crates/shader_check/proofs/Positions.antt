-- What a TMU keeps after one more instruction, and the clamp of a direct sample.
use Rattle.std.proofs.Common.{◌≡◌, ◌<◌, ◌+◌, ℕ, suc, Bool, true, false, List, [], ◌∷◌, ◌++◌, map, Option, Some, None, slice_get, if◌then◌else◌, refl, sym, ap, arith, ◌∙◌, nat_lt}
use Rattle.std.proofs.{lemmas.Bool.and_from, lemmas.Bool.and_right, lemmas.Bool.lt-ltb, lemmas.List.map-append}
use Rattle.qpu_isa.specs.{declared.inst.Reg.Reg, Setups.setups_kept, declared.inst.Sample.Sample}
use Rattle.qpu_isa.specs.Terms.{writes_s, writes_tmu, first_register, loaded_value, is_max_with_zero}
use Rattle.shader_flow.specs.{Flow.word, Flow.checked_of, Bounded.indexes, Pending.count_of}
use Rattle.clamp_facts.specs.{declared.fact.Fact.TheVariants.Clamped, Readings.clamp_in, Readings.bound_in}
use Rattle.clamp_facts.specs.Facts.{makes_clamp, fact_of_write, fact_made, fact_by, fact_at, carrier_of}
use Rattle.shader_check.specs.Info.{setups_held, clamp_list, clamp_parts, first_four, sample_tmu, sample_parts, sample_of, is_direct_sample, asks, is_sample}
use Rattle.shader_flow.proofs.Bounded.{indexes_here, indexes_not}
use Rattle.std.specs.Option.{option_to_list}

pub held_next : (code : List ℕ) (tmu i : ℕ) → i < checked_of code → setups_held code tmu (i + 1) ≡ setups_kept (word code i) tmu i (setups_held code tmu i)
unfolding setups_held
held_next code tmu i inside =
    let e : i + 1 ≡ suc i = omega arith in
    ap (setups_held code tmu) e ∙ ap (λ b. if b then setups_kept (word code i) tmu i (setups_held code tmu i) else setups_held code tmu i) (lt-ltb i (checked_of code) inside)

pub held_sent : (code : List ℕ) (f : ℕ → ℕ) (tmu i : ℕ) → i < checked_of code → writes_s (word code i) tmu ≡ true → map f (setups_held code tmu (i + 1)) ≡ []
unfolding setups_kept
held_sent code f tmu i inside sent =
    ap (map f) (held_next code tmu i inside)
    ∙ ap (λ b. map f (if b then [] else (if writes_tmu (word code i) tmu then setups_held code tmu i ++ (i ∷ []) else setups_held code tmu i))) sent

pub held_more : (code : List ℕ) (f : ℕ → ℕ) (tmu i : ℕ) → i < checked_of code → writes_s (word code i) tmu ≡ false → writes_tmu (word code i) tmu ≡ true
    → map f (setups_held code tmu (i + 1)) ≡ map f (setups_held code tmu i) ++ (f i ∷ [])
unfolding setups_kept
held_more code f tmu i inside kept-on written =
    ap (map f) (held_next code tmu i inside)
    ∙ ap (λ b. map f (if b then [] else (if writes_tmu (word code i) tmu then setups_held code tmu i ++ (i ∷ []) else setups_held code tmu i))) kept-on
    ∙ ap (λ b. map f (if b then setups_held code tmu i ++ (i ∷ []) else setups_held code tmu i)) written
    ∙ map-append f (setups_held code tmu i) (i ∷ [])

pub held_same : (code : List ℕ) (f : ℕ → ℕ) (tmu i : ℕ) → i < checked_of code → writes_s (word code i) tmu ≡ false → writes_tmu (word code i) tmu ≡ false
    → map f (setups_held code tmu (i + 1)) ≡ map f (setups_held code tmu i)
unfolding setups_kept
held_same code f tmu i inside kept-on untouched =
    ap (map f) (held_next code tmu i inside)
    ∙ ap (λ b. map f (if b then [] else (if writes_tmu (word code i) tmu then setups_held code tmu i ++ (i ∷ []) else setups_held code tmu i))) kept-on
    ∙ ap (λ b. map f (if b then setups_held code tmu i ++ (i ∷ []) else setups_held code tmu i)) untouched

-- the clamp of the first operand, where one holds
pub clamp_parts_one : (code : List ℕ) (i j : ℕ) (reg : Reg) → first_register (word code i) ≡ Some reg
    → fact_at code i reg ≡ Clamped (count_of code j) j → clamp_parts code i ≡ j ∷ []
unfolding clamp_parts
clamp_parts_one code i j reg register fact =
    ap (clamp_list code i) register ∙ ap (λ f. option_to_list (clamp_in f)) fact

-- the uniform of a clamp is the count at it
pub counted_made : (f : ℕ → ℕ) (loaded : Option ℕ) (max clamp : Bool) (at : ℕ)
    → option_to_list (bound_in (fact_made loaded max clamp (f at) at)) ≡ map f (option_to_list (clamp_in (fact_made loaded max clamp (f at) at)))
counted_made f (Some value) max clamp at = refl
counted_made f None true clamp at = refl
counted_made f None false true at = refl
counted_made f None false false at = refl

pub counted_by : (code : List ℕ) (o : Option ℕ)
    → option_to_list (bound_in (fact_by code o)) ≡ map (count_of code) (option_to_list (clamp_in (fact_by code o)))
unfolding fact_of_write
counted_by code None = refl
counted_by code (Some j) = counted_made (count_of code) (loaded_value (word code j)) (is_max_with_zero (word code j)) (makes_clamp code j) j

pub counted_bound : (code : List ℕ) (i : ℕ) (reg : Reg) → option_to_list (bound_in (fact_at code i reg)) ≡ map (count_of code) (option_to_list (clamp_in (fact_at code i reg)))
unfolding fact_at
counted_bound code i reg = counted_by code (carrier_of code i reg)

pub bound_some : (code : List ℕ) (i : ℕ) (reg : Reg) → Some reg ≡ first_register (word code i)
    → option_to_list (bound_in (fact_at code i reg)) ≡ map (count_of code) (clamp_parts code i)
unfolding clamp_parts
bound_some code i reg register = counted_bound code i reg ∙ ap (λ o. map (count_of code) (clamp_list code i o)) register

pub bound_none : (code : List ℕ) (i : ℕ) → None ≡ first_register (word code i) → [] ≡ map (count_of code) (clamp_parts code i)
unfolding clamp_parts
bound_none code i none = ap (λ o. map (count_of code) (clamp_list code i o)) none

-- a sample with these positions
abbrev pub sample_with : List ℕ → Bool → Sample
sample_with numbers direct = record { p = first_four numbers; direct = direct }

pub sample_direct : (code : List ℕ) (i : ℕ) → is_direct_sample code i ≡ true → sample_of code i ≡ sample_with (count_of code i ∷ map (count_of code) (clamp_parts code i)) true
unfolding sample_of sample_parts
sample_direct code i direct =
    ap (λ b. sample_with (map (count_of code) (if b then i ∷ clamp_parts code i else setups_held code (sample_tmu (word code i)) i ++ (i ∷ []))) b) direct

pub sample_setup : (code : List ℕ) (i : ℕ) → is_direct_sample code i ≡ false
    → sample_of code i ≡ sample_with (map (count_of code) (setups_held code (sample_tmu (word code i)) i) ++ (count_of code i ∷ [])) false
unfolding sample_of sample_parts
sample_setup code i setup =
    ap (λ b. sample_with (map (count_of code) (if b then i ∷ clamp_parts code i else setups_held code (sample_tmu (word code i)) i ++ (i ∷ []))) b) setup
    ∙ ap (λ ns. sample_with ns false) (map-append (count_of code) (setups_held code (sample_tmu (word code i)) i) (i ∷ []))

-- what the code makes is that
pub two_positions : (n : ℕ) (second : Option ℕ) → ◌≡◌ {A = Sample} (record { p = Some n ∷ second ∷ None ∷ None ∷ []; direct = true }) (sample_with (n ∷ option_to_list second) true)
two_positions n None = refl
two_positions n (Some k) = refl

pub direct_is : (code : List ℕ) (i n : ℕ) (second : Option ℕ) → is_direct_sample code i ≡ true → n ≡ count_of code i
    → option_to_list second ≡ map (count_of code) (clamp_parts code i)
    → ◌≡◌ {A = Sample} (record { p = Some n ∷ second ∷ None ∷ None ∷ []; direct = true }) (sample_of code i)
direct_is code i n second direct count-is second-is =
    two_positions n second
    ∙ ap (λ ns. sample_with (n ∷ ns) true) second-is
    ∙ ap (λ m. sample_with (m ∷ map (count_of code) (clamp_parts code i)) true) count-is
    ∙ sym (sample_direct code i direct)

pub setup_is : (code : List ℕ) (i n : ℕ) (kept-now : List ℕ) (a b c d : Option ℕ) → is_direct_sample code i ≡ false → n ≡ count_of code i
    → kept-now ≡ map (count_of code) (setups_held code (sample_tmu (word code i)) i)
    → a ≡ slice_get (kept-now ++ (n ∷ [])) 0 → b ≡ slice_get (kept-now ++ (n ∷ [])) 1 → c ≡ slice_get (kept-now ++ (n ∷ [])) 2 → d ≡ slice_get (kept-now ++ (n ∷ [])) 3
    → ◌≡◌ {A = Sample} (record { p = a ∷ b ∷ c ∷ d ∷ []; direct = false }) (sample_of code i)
setup_is code i n kept-now a b c d setup count-is kept-is e0 e1 e2 e3 =
    let four : List (Option ℕ) → Sample = λ ps. record { p = ps; direct = false } in
    ap (λ x. four (x ∷ b ∷ c ∷ d ∷ [])) e0
    ∙ ap (λ x. four (slice_get (kept-now ++ (n ∷ [])) 0 ∷ x ∷ c ∷ d ∷ [])) e1
    ∙ ap (λ x. four (slice_get (kept-now ++ (n ∷ [])) 0 ∷ slice_get (kept-now ++ (n ∷ [])) 1 ∷ x ∷ d ∷ [])) e2
    ∙ ap (λ x. four (slice_get (kept-now ++ (n ∷ [])) 0 ∷ slice_get (kept-now ++ (n ∷ [])) 1 ∷ slice_get (kept-now ++ (n ∷ [])) 2 ∷ x ∷ [])) e3
    ∙ ap (λ ns. sample_with (ns ++ (n ∷ [])) false) kept-is
    ∙ ap (λ m. sample_with (map (count_of code) (setups_held code (sample_tmu (word code i)) i) ++ (m ∷ [])) false) count-is
    ∙ sym (sample_setup code i setup)

-- the samples with one more instruction
pub samples_more : (code : List ℕ) (i : ℕ) → i < checked_of code → asks (word code i) ≡ true
    → map (sample_of code) (indexes (i + 1) (is_sample code)) ≡ map (sample_of code) (indexes i (is_sample code)) ++ (sample_of code i ∷ [])
unfolding is_sample
samples_more code i inside asked =
    ap (map (sample_of code)) (indexes_here i (is_sample code) (and_from (nat_lt i (checked_of code)) (asks (word code i)) (lt-ltb i (checked_of code) inside) asked))
    ∙ map-append (sample_of code) (indexes i (is_sample code)) (i ∷ [])

pub samples_same : (code : List ℕ) (i : ℕ) → asks (word code i) ≡ false
    → map (sample_of code) (indexes (i + 1) (is_sample code)) ≡ map (sample_of code) (indexes i (is_sample code))
unfolding is_sample
samples_same code i none =
    ap (map (sample_of code)) (indexes_not i (is_sample code) (and_right (nat_lt i (checked_of code)) (asks (word code i)) none))
