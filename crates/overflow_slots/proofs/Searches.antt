-- Numbers that pass a test.
use Rattle.std.proofs.Common.{◌≡◌, ℕ, zero, suc, ◌+◌, ◌-◌, ◌≤◌, ◌<◌, Bool, true, false, ◌||◌, refl, sym, ◌∙◌, ap, arith, None, Some, ◌==◌, if◌then◌else◌}
use Rattle.std.proofs.lemmas.Bool.Decides.{nat_tests}
use Rattle.overflow_slots.specs.Search.{first_where, count_where, any_where}
use Rattle.std.proofs.lemmas.Bool.{eqb-true}

left : (slot slots : ℕ) → slot < slots → slots - slot ≡ suc (slots - (slot + 1))
left slot slots inside = omega arith

pub first_here : (passes : ℕ → Bool) (slot slots : ℕ) → slot < slots → passes slot ≡ true → first_where passes slot (slots - slot) ≡ Some slot
unfolding first_where
first_here passes slot slots inside here = rw (left slot slots inside, here) refl

pub first_later : (passes : ℕ → Bool) (slot slots : ℕ) → slot < slots → passes slot ≡ false
    → first_where passes (slot + 1) (slots - (slot + 1)) ≡ first_where passes slot (slots - slot)
unfolding first_where
first_later passes slot slots inside here = rw (left slot slots inside, here) refl

pub first_never : (passes : ℕ → Bool) (slot slots : ℕ) → slots ≤ slot → first_where passes slot (slots - slot) ≡ None
unfolding first_where
first_never passes slot slots past = let e : slots - slot ≡ zero = omega arith in rw e refl

pub count_yes : (passes : ℕ → Bool) (n : ℕ) → passes n ≡ true → count_where passes n + 1 ≡ count_where passes (n + 1)
unfolding count_where
count_yes passes n here = let e : n + 1 ≡ suc n = omega arith in rw (e, here) refl

pub count_no : (passes : ℕ → Bool) (n : ℕ) → passes n ≡ false → count_where passes n ≡ count_where passes (n + 1)
unfolding count_where
count_no passes n here = let e : n + 1 ≡ suc n = omega arith in rw (e, here) (omega arith)

-- tests that agree below n
pub first_same : (p q : ℕ → Bool) (from n : ℕ) → ((k : ℕ) → k < from + n → p k ≡ q k) → first_where p from n ≡ first_where q from n
unfolding first_where
first_same p q from zero same = refl
first_same p q from (suc n) same =
    rw (same from (omega arith)) (ap (λ later. if q from then Some from else later) (first_same p q (from + 1) n (λ k h. same k (omega arith))))

pub count_same : (p q : ℕ → Bool) (n : ℕ) → ((k : ℕ) → k < n → p k ≡ q k) → count_where p n ≡ count_where q n
unfolding count_where
count_same p q zero same = refl
count_same p q (suc n) same =
    rw (same n (omega arith)) (ap (λ count. count + (if q n then 1 else 0)) (count_same p q n (λ k h. same k (omega arith))))

pub any_none : (passes : ℕ → Bool) (n : ℕ) → ((k : ℕ) → k < n → passes k ≡ false) → any_where passes n ≡ false
unfolding any_where
any_none passes zero none = refl
any_none passes (suc n) none = rw (none n (omega arith)) (any_none passes n (λ k h. none k (omega arith)))

pub or_true : (b : Bool) → (b || true) ≡ true
or_true true = refl
or_true false = refl

pub apart_by : (k n : ℕ) → (k == n) ≡ false → k ≡ n → ⊥
apart_by k n apart is = grind (arith, nat_tests)

below : (k n : ℕ) → k < suc n → (k == n) ≡ false → k < n
below k n inside apart = grind (arith, nat_tests)

any_by : (passes : ℕ → Bool) (n k : ℕ) (last : Bool) → (k == n) ≡ last → k < suc n → passes k ≡ true
    → (k < n → any_where passes n ≡ true) → any_where passes (suc n) ≡ true
unfolding any_where
any_by passes n k true is inside here more =
    let last : passes n ≡ true = sym (ap passes (eqb-true k n is)) ∙ here in
    ap (λ b. b || any_where passes n) last
any_by passes n k false is inside here more = ap (λ b. passes n || b) (more (below k n inside is)) ∙ or_true (passes n)

pub any_is : (passes : ℕ → Bool) (n k : ℕ) → k < n → passes k ≡ true → any_where passes n ≡ true
any_is passes zero k inside here = absurd (omega (arith, inside))
any_is passes (suc n) k inside here = any_by passes n k (k == n) refl inside here (λ h. any_is passes n k h here)

some_inj : (i k : ℕ) → Some i ≡ Some k → i ≡ k
some_inj i k is = cc

found_by : (passes : ℕ → Bool) (from n k : ℕ) (here : Bool) → passes from ≡ here → first_where passes from (suc n) ≡ Some k
    → (first_where passes (from + 1) n ≡ Some k → (k < from + 1 + n) × (passes k ≡ true)) → (k < from + suc n) × (passes k ≡ true)
unfolding first_where
found_by passes from n k true here is later =
    let e : from ≡ k = some_inj from k (ap (λ b. if b then Some from else first_where passes (from + 1) n) (sym here) ∙ is) in
    (omega (arith, e), ap passes (sym e) ∙ here)
found_by passes from n k false here is later =
    let more = later (ap (λ b. if b then Some from else first_where passes (from + 1) n) (sym here) ∙ is) in
    (omega (arith, more.0), more.1)

-- the first that passes is below the end, and passes
pub first_found : (passes : ℕ → Bool) (from n k : ℕ) → first_where passes from n ≡ Some k → (k < from + n) × (passes k ≡ true)
unfolding first_where
first_found passes from zero k is = let no : ⊥ = cc in absurd no
first_found passes from (suc n) k is = found_by passes from n k (passes from) refl is (first_found passes (from + 1) n k)
