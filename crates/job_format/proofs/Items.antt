-- Items of a list that a loop meets in turn.
use Rattle.std.proofs.Common.{◌≡◌, ℕ, zero, suc, ◌+◌, ◌<◌, ◌≤◌, List, [], ◌∷◌, ◌++◌, length, map, take, get_or, refl, sym, ap, subst, arith, ◌∙◌, add-one, append_assoc}
use Rattle.std.proofs.{lemmas.List.append-nil, lemmas.List.map-append, lemmas.Grind.flat_map-append, Math.Seq.take-suc}
use Rattle.std.specs.List.{flat_map, AllByRecursion}
use Rattle.field_words.specs.Pieces.{joined_texts}

-- what holds of each holds of the one that is met
pub all_at : {A B : Type 0} (P : B → Type 0) (f : A → B) (xs : List A) (i : ℕ) (x : A) → AllByRecursion P (map f xs) → i < length xs → x ≡ get_or xs i x → P (f x)
all_at P f [] i x all inside met = absurd (omega (arith, inside))
all_at P f (y ∷ ys) zero x all inside met = subst (λ z. P (f z)) (sym met) all.0
all_at P f (y ∷ ys) (suc i) x all inside met = all_at P f ys i x all.1 (omega arith) met

-- Texts are joined as they are.
pub joined_flat : (texts : List (List ℕ)) → flat_map (λ t. t) texts ≡ joined_texts texts
joined_flat [] = refl
joined_flat (text ∷ texts) = ap (λ rest. text ++ rest) (joined_flat texts)

-- One more item is taken.
taken : {A : Type 0} (xs : List A) (i : ℕ) (x : A) → i < length xs → x ≡ get_or xs i x → take (i + 1) xs ≡ take i xs ++ (x ∷ [])
taken xs i x inside met = ap (λ k. take k xs) (add-one i) ∙ take-suc xs i x inside ∙ ap (λ y. take i xs ++ (y ∷ [])) (sym met)

pushed : {A : Type 0} (P : A → Type 0) (xs : List A) (x : A) → AllByRecursion P xs → P x → AllByRecursion P (xs ++ (x ∷ []))
pushed P [] x all one = (one, tt)
pushed P (y ∷ ys) x all one = (all.0, pushed P ys x all.1 one)

pub flat_map_last : {A : Type 0} (text : A → List ℕ) (xs : List A) (x : A) → flat_map text (xs ++ x ∷ []) ≡ flat_map text xs ++ text x
flat_map_last text xs x = flat_map-append text xs (x ∷ []) ∙ ap (λ last. flat_map text xs ++ last) (append-nil (text x))

-- the text and the fact of the items so far, at one more
pub more : {A : Type 0} (text : A → List ℕ) (P : A → Type 0) (xs : List A) (i : ℕ) (x : A) (old before new : List ℕ) → i < length xs → x ≡ get_or xs i x
    → (before ≡ old ++ flat_map text (take i xs)) × AllByRecursion P (take i xs) → new ≡ before ++ text x → P x
    → (new ≡ old ++ flat_map text (take (i + 1) xs)) × AllByRecursion P (take (i + 1) xs)
more text P xs i x old before new inside met so_far appended one =
    let one_more = taken xs i x inside met in (
      appended ∙ ap (λ t. t ++ text x) so_far.0 ∙ append_assoc old (flat_map text (take i xs)) (text x)
          ∙ ap (λ t. old ++ t) (sym (flat_map_last text (take i xs) x) ∙ ap (flat_map text) (sym one_more)),
      subst (AllByRecursion P) (sym one_more) (pushed P (take i xs) x so_far.1 one),
    )

pub more_viewed : {A B : Type 0} (v : A → B) (text : B → List ℕ) (P : B → Type 0) (xs : List A) (i : ℕ) (x : A) (old before new : List ℕ) → i < length xs → x ≡ get_or xs i x
    → (before ≡ old ++ flat_map text (map v (take i xs))) × AllByRecursion P (map v (take i xs)) → new ≡ before ++ text (v x) → P (v x)
    → (new ≡ old ++ flat_map text (map v (take (i + 1) xs))) × AllByRecursion P (map v (take (i + 1) xs))
more_viewed v text P xs i x old before new inside met so_far appended one =
    let one_more : map v (take (i + 1) xs) ≡ map v (take i xs) ++ (v x ∷ []) = ap (map v) (taken xs i x inside met) ∙ map-append v (take i xs) (x ∷ []) in (
      appended ∙ ap (λ t. t ++ text (v x)) so_far.0 ∙ append_assoc old (flat_map text (map v (take i xs))) (text (v x))
          ∙ ap (λ t. old ++ t) (sym (flat_map_last text (map v (take i xs)) (v x)) ∙ ap (flat_map text) (sym one_more)),
      subst (AllByRecursion P) (sym one_more) (pushed P (map v (take i xs)) (v x) so_far.1 one),
    )

-- all of them
pub all_taken : {A : Type 0} (xs : List A) (n : ℕ) → length xs ≤ n → take n xs ≡ xs
all_taken [] zero past = refl
all_taken [] (suc n) past = refl
all_taken (x ∷ xs) zero past = absurd (omega (arith, past))
all_taken (x ∷ xs) (suc n) past = ap (λ t. x ∷ t) (all_taken xs n (omega arith))
