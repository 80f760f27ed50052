-- Laws on tests over ranges of indexes.
use Rattle.std.proofs.Common.{◌≡◌, ◌≤◌, ◌<◌, ℕ, zero, suc, ◌+◌, Bool, true, false, ◌&&◌, ◌||◌, nat_le, [], ◌∷◌, ◌++◌, map, Option, Some, None, if◌then◌else◌, inl, inr, refl, sym, ap, subst, arith, ◌∙◌, append-nil}
use Rattle.std.proofs.lemmas.Bool.{cases_eq, cases_Bool, or_from, or_left, or_right, or_cases, and_from, and_left, and_right, le-leb, leb-true, true≢false, false_from_ne_true}
use Rattle.std.proofs.lemmas.List.{map-append}
use Rattle.shader_flow.specs.Bounded.{some_below, some_in, indexes, last_below}

-- one more index
pub some_below-suc : (n : ℕ) (p : ℕ → Bool) → some_below (n + 1) p ≡ (some_below n p || p n)
unfolding some_below
some_below-suc n p = let e : n + 1 ≡ suc n = omega arith in ap (λ m. some_below m p) e

-- an index of which it is true
pub some_below_here : (n k : ℕ) (p : ℕ → Bool) → k < n → p k ≡ true → some_below n p ≡ true
unfolding some_below
some_below_here zero k p below here = let no : ⊥ = omega (arith, below) in absurd no
some_below_here (suc n) k p below here =
    elim (cases_eq k n) [
      | inl same ↦ or_right (some_below n p) (p n) (subst (λ m. p m ≡ true) same here)
      | inr other ↦ or_left (some_below n p) (p n) (some_below_here n k p (omega arith) here)
    ]

-- none
pub some_below_none : (n : ℕ) (p : ℕ → Bool) → ((k : ℕ) → k < n → p k ≡ false) → some_below n p ≡ false
unfolding some_below
some_below_none zero p none = refl
some_below_none (suc n) p none =
    or_from (some_below n p) (p n) (some_below_none n p (λ k below. none k (omega arith))) (none n (omega arith))

pub some_below_not : (n k : ℕ) (p : ℕ → Bool) → some_below n p ≡ false → k < n → p k ≡ false
some_below_not n k p none below =
    false_from_ne_true (p k) (λ here. true≢false (sym (some_below_here n k p below here) ∙ none))

-- which one
pub some_below_found : (n : ℕ) (p : ℕ → Bool) → some_below n p ≡ true → (k : ℕ) × (k < n) × (p k ≡ true)
unfolding some_below
some_below_found zero p some = cc
some_below_found (suc n) p some =
    elim (or_cases (some_below n p) (p n) some) [
      | inl earlier ↦ (let found = some_below_found n p earlier in (found.0, omega (arith, found.1), found.2))
      | inr here ↦ (n, omega arith, here)
    ]

-- tests that agree
pub some_below_same : (n : ℕ) (p q : ℕ → Bool) → ((k : ℕ) → k < n → p k ≡ q k) → some_below n p ≡ some_below n q
unfolding some_below
some_below_same zero p q same = refl
some_below_same (suc n) p q same =
    ap (λ a. a || p n) (some_below_same n p q (λ k below. same k (omega arith))) ∙ ap (λ b. some_below n q || b) (same n (omega arith))

-- one test from an index on is true where that of k is
pub some_in_here : (from to k : ℕ) (p : ℕ → Bool) → from ≤ k → k < to → p k ≡ true → some_in from to p ≡ true
unfolding some_in
some_in_here from to k p after below here =
    some_below_here to k (λ m. nat_le from m && p m) below (and_from (nat_le from k) (p k) (le-leb from k after) here)

pub some_in_none : (from to : ℕ) (p : ℕ → Bool) → ((k : ℕ) → from ≤ k → k < to → p k ≡ false) → some_in from to p ≡ false
unfolding some_in
some_in_none from to p none =
    some_below_none to (λ m. nat_le from m && p m)
    (λ k below. elim (cases_Bool (nat_le from k)) [
      | inl after ↦ and_right (nat_le from k) (p k) (none k (leb-true from k after) below)
      | inr before ↦ and_left (nat_le from k) (p k) before
    ])

pub some_in_not : (from to k : ℕ) (p : ℕ → Bool) → some_in from to p ≡ false → from ≤ k → k < to → p k ≡ false
some_in_not from to k p none after below =
    false_from_ne_true (p k) (λ here. true≢false (sym (some_in_here from to k p after below here) ∙ none))

-- the list of indexes, with one more
pub indexes_here : (n : ℕ) (p : ℕ → Bool) → p n ≡ true → indexes (n + 1) p ≡ indexes n p ++ (n ∷ [])
unfolding indexes
indexes_here n p here =
    let e : n + 1 ≡ suc n = omega arith in
    ap (λ m. indexes m p) e ∙ ap (λ b. indexes n p ++ (if b then n ∷ [] else [])) here

pub indexes_not : (n : ℕ) (p : ℕ → Bool) → p n ≡ false → indexes (n + 1) p ≡ indexes n p
unfolding indexes
indexes_not n p none =
    let e : n + 1 ≡ suc n = omega arith in
    ap (λ m. indexes m p) e ∙ ap (λ b. indexes n p ++ (if b then n ∷ [] else [])) none ∙ append-nil (indexes n p)

pub map_indexes_here : (f : ℕ → ℕ) (n : ℕ) (p : ℕ → Bool) → p n ≡ true → map f (indexes (n + 1) p) ≡ map f (indexes n p) ++ (f n ∷ [])
map_indexes_here f n p here = ap (map f) (indexes_here n p here) ∙ map-append f (indexes n p) (n ∷ [])

pub map_indexes_not : (f : ℕ → ℕ) (n : ℕ) (p : ℕ → Bool) → p n ≡ false → map f (indexes (n + 1) p) ≡ map f (indexes n p)
map_indexes_not f n p none = ap (map f) (indexes_not n p none)

-- one truth
pub same_tests : (a b : Bool) → (a ≡ true → b ≡ true) → (b ≡ true → a ≡ true) → a ≡ b
same_tests true b there back = sym (there refl)
same_tests false true there back = back refl
same_tests false false there back = refl

-- the last of which the test is true
pub last_below_none : (n : ℕ) (p : ℕ → Bool) → ((k : ℕ) → k < n → p k ≡ false) → last_below n p ≡ None
unfolding last_below
last_below_none zero p none = refl
last_below_none (suc n) p none =
    ap (λ b. if b then Some n else last_below n p) (none n (omega arith)) ∙ last_below_none n p (λ k below. none k (omega (arith, below)))

pub last_below_same : (n : ℕ) (p q : ℕ → Bool) → ((k : ℕ) → k < n → p k ≡ q k) → last_below n p ≡ last_below n q
unfolding last_below
last_below_same zero p q same = refl
last_below_same (suc n) p q same =
    ap (λ b. if b then Some n else last_below n p) (same n (omega arith))
    ∙ ap (λ o. if q n then Some n else o) (last_below_same n p q (λ k below. same k (omega (arith, below))))

pub last_below-suc : (n : ℕ) (p : ℕ → Bool) → last_below (n + 1) p ≡ (if p n then Some n else last_below n p)
unfolding last_below
last_below-suc n p = let e : n + 1 ≡ suc n = omega arith in ap (λ m. last_below m p) e

-- the only one
pub last_below_one : (n j : ℕ) (p : ℕ → Bool) → j < n → p j ≡ true → ((k : ℕ) → j < k → k < n → p k ≡ false) → last_below n p ≡ Some j
unfolding last_below
last_below_one zero j p below here after = let no : ⊥ = omega (arith, below) in absurd no
last_below_one (suc n) j p below here after =
    elim (cases_eq j n) [
      | inl same ↦ ap (λ b. if b then Some n else last_below n p) (subst (λ m. p m ≡ true) same here) ∙ ap Some (sym same)
      | inr other ↦
          (let less : j < n = omega arith in
          ap (λ b. if b then Some n else last_below n p) (after n less (omega arith))
          ∙ last_below_one n j p less here (λ k past k-below. after k past (omega (arith, k-below))))
    ]

pub last_below_found : (n j : ℕ) (p : ℕ → Bool) → last_below n p ≡ Some j → (j < n) × (p j ≡ true)
unfolding last_below
last_below_found zero j p found = cc
last_below_found (suc n) j p found =
    elim (cases_Bool (p n)) [
      | inl here ↦
          (let e : ◌≡◌ {A = Option ℕ} (Some n) (Some j) = sym (ap (λ b. if b then Some n else last_below n p) here) ∙ found in
          let same : n ≡ j = cc in
          (omega (arith, same), subst (λ m. p m ≡ true) same here))
      | inr not-here ↦
          (let later = last_below_found n j p (sym (ap (λ b. if b then Some n else last_below n p) not-here) ∙ found) in
          (omega (arith, later.0), later.1))
    ]
