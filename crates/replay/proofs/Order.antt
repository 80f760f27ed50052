-- The units that may step, one number further.
use Rattle.std.proofs.Common.{◌≡◌, ℕ, zero, suc, ◌+◌, ◌*◌, ◌<◌, Bool, true, false, if◌then◌else◌, List, [], ◌∷◌, ◌++◌, length, take, slice_index, sym, ◌∙◌, ap, append-nil, refl, arith}
use Rattle.std.proofs.{lemmas.List.Elements.filter-append, lemmas.List.Elements.filter_more, lemmas.Bool.Decides.nat_tests}
use Rattle.std.proofs.Math.Dec.{eqb-suc-zero}
use Rattle.std.specs.{Prelude.filter, Prelude.◌==◌, List.range_with_len}
use Rattle.field_words.specs.declared.access.Actor.TheVariants.{Binner as TheBinner, Renderer as TheRenderer, Qpu as TheQpu, Tmu as TheTmu}
use Rattle.replay.specs.Units.{unit_at, units_preferred}

range_more : (a n : ℕ) → range_with_len a (suc n) ≡ range_with_len a n ++ (a + n) ∷ []
range_more a zero = let same : a ≡ a + 0 = omega arith in ap (λ k. k ∷ []) same
range_more a (suc n) = let same : a + 1 + n ≡ a + suc n = omega arith in ap (λ rest. a ∷ rest) (range_more (a + 1) n ∙ ap (λ k. range_with_len (a + 1) n ++ k ∷ []) same)

pub units_more : (p : ℕ → Bool) (n : ℕ) → filter p (range_with_len 0 (n + 1)) ≡ filter p (range_with_len 0 n) ++ (if p n then n ∷ [] else [])
units_more p n =
    let one : n + 1 ≡ suc n = omega arith in
    let same : 0 + n ≡ n = omega arith in
    ap (λ k. filter p (range_with_len 0 k)) one ∙ (ap (filter p) (range_more 0 n ∙ ap (λ k. range_with_len 0 n ++ k ∷ []) same) ∙ filter-append p (range_with_len 0 n) (n ∷ []))

pub units_put : (p : ℕ → Bool) (n : ℕ) (old new : List ℕ) → p n ≡ true → old ≡ filter p (range_with_len 0 n) → new ≡ old ++ n ∷ [] → new ≡ filter p (range_with_len 0 (n + 1))
units_put p n old new here old_is new_is =
    new_is ∙ (ap (λ units. units ++ n ∷ []) old_is ∙ sym (units_more p n ∙ ap (λ b. filter p (range_with_len 0 n) ++ (if b then n ∷ [] else [])) here))

pub units_past : (p : ℕ → Bool) (n : ℕ) (old : List ℕ) → p n ≡ false → old ≡ filter p (range_with_len 0 n) → old ≡ filter p (range_with_len 0 (n + 1))
units_past p n old here old_is =
    old_is ∙ sym (units_more p n ∙ (ap (λ b. filter p (range_with_len 0 n) ++ (if b then n ∷ [] else [])) here ∙ append-nil (filter p (range_with_len 0 n))))

-- the units by their numbers
pub binner_at : TheBinner ≡ unit_at 0
unfolding unit_at
binner_at = refl

pub renderer_at : TheRenderer ≡ unit_at 1
unfolding unit_at
renderer_at = refl

pub qpu_at : (q : ℕ) → TheQpu q ≡ unit_at (3 * q + 2)
unfolding unit_at
qpu_at q = grind (arith, nat_tests)

pub tmu0_at : (q : ℕ) → TheTmu q 0 ≡ unit_at (3 * q + 3)
unfolding unit_at
tmu0_at q = grind (arith, nat_tests)

pub tmu1_at : (q : ℕ) → TheTmu q 1 ≡ unit_at (3 * q + 4)
unfolding unit_at
tmu1_at q = grind (arith, nat_tests)

-- the favoured ones, where there are any
pub preferred_none : (these those : List ℕ) → (length these == 0) ≡ true → units_preferred these those ≡ those
preferred_none [] those h = refl
preferred_none (n ∷ these) those h = absurd (let more : (length (n ∷ these) == 0) ≡ false = eqb-suc-zero (length these) in let clash : true ≡ false = sym h ∙ more in cc)

pub preferred_some : (these those : List ℕ) → (length these == 0) ≡ false → units_preferred these those ≡ these
preferred_some [] those h = absurd (cc)
preferred_some (n ∷ these) those h = refl

-- those of a list that are of a kind, one number further
pub of_kind_put : (p : ℕ → Bool) (xs : List ℕ) (i : ℕ) (old new : List ℕ) → i < length xs → p (slice_index xs i) ≡ true → old ≡ filter p (take i xs) → new ≡ old ++ slice_index xs i ∷ [] → new ≡ filter p (take (i + 1) xs)
of_kind_put p xs i old new inside here old_is new_is =
    new_is ∙ (ap (λ l. l ++ slice_index xs i ∷ []) old_is ∙ sym (filter_more p xs i 0 inside ∙ ap (λ b. filter p (take i xs) ++ (if b then slice_index xs i ∷ [] else [])) here))

pub of_kind_past : (p : ℕ → Bool) (xs : List ℕ) (i : ℕ) (old : List ℕ) → i < length xs → p (slice_index xs i) ≡ false → old ≡ filter p (take i xs) → old ≡ filter p (take (i + 1) xs)
of_kind_past p xs i old inside here old_is =
    old_is ∙ sym (filter_more p xs i 0 inside ∙ (ap (λ b. filter p (take i xs) ++ (if b then slice_index xs i ∷ [] else [])) here ∙ append-nil (filter p (take i xs))))
