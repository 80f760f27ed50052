-- Runs of pages that pass a test.
use Rattle.std.proofs.Common.{◌≡◌, ℕ, zero, suc, ◌+◌, ◌≤◌, ◌<◌, Bool, true, false, ◌&&◌, nat_le, refl, sym, ◌∙◌, ap, arith, None, Some}
use Rattle.std.proofs.lemmas.Bool.Decides.{nat_tests}
use Rattle.overflow_slots.specs.Search.{first_where}
use Rattle.session_pages.specs.Runs.{page_count, all_where, is_run, first_run}

first_by : (p : ℕ → Bool) (from n k : ℕ) (at : Bool) → nat_le k from ≡ at → from ≤ k → k < from + suc n
    → ((j : ℕ) → from ≤ j → j < k → p j ≡ false) → p k ≡ true
    → (from + 1 ≤ k → k < from + 1 + n → ((j : ℕ) → from + 1 ≤ j → j < k → p j ≡ false) → p k ≡ true → first_where p (from + 1) n ≡ Some k)
    → first_where p from (suc n) ≡ Some k
unfolding first_where
first_by p from n k true is low high none here more =
    let e : k ≡ from = grind (arith, nat_tests) in
    let hit : p from ≡ true = ap p (sym e) ∙ here in
    rw hit (ap (λ (x : ℕ). Some x) (sym e))
first_by p from n k false is low high none here more =
    let past : from < k = grind (arith, nat_tests) in
    let miss : p from ≡ false = none from (omega arith) past in
    rw miss (more (omega arith) (omega arith) (λ j a b. none j (omega arith) b) here)

-- the first of the n numbers from a place on that passes is this one
pub first_is : (p : ℕ → Bool) (from n k : ℕ) → from ≤ k → k < from + n → ((j : ℕ) → from ≤ j → j < k → p j ≡ false) → p k ≡ true
    → first_where p from n ≡ Some k
unfolding first_where
first_is p from zero k low high none here = absurd (omega (arith, low, high))
first_is p from (suc n) k low high none here = first_by p from n k (nat_le k from) refl low high none here (first_is p (from + 1) n k)

-- none of them passes
pub first_never : (p : ℕ → Bool) (from n : ℕ) → ((j : ℕ) → from ≤ j → j < from + n → p j ≡ false) → first_where p from n ≡ None
unfolding first_where
first_never p from zero none = refl
first_never p from (suc n) none =
    rw (none from (omega arith) (omega arith)) (first_never p (from + 1) n (λ j a b. none j (omega arith) (omega arith)))

pub all_are : (p : ℕ → Bool) (from n : ℕ) → ((j : ℕ) → from ≤ j → j < from + n → p j ≡ true) → all_where p from n ≡ true
unfolding all_where
all_are p from zero each = refl
all_are p from (suc n) each =
    rw (each from (omega arith) (omega arith)) (all_are p (from + 1) n (λ j a b. each j (omega arith) (omega arith)))

and_false : (b : Bool) → (b && false) ≡ false
and_false true = refl
and_false false = refl

fail_by : (p : ℕ → Bool) (from n j : ℕ) (at : Bool) → nat_le j from ≡ at → from ≤ j → j < from + suc n → p j ≡ false
    → (from + 1 ≤ j → j < from + 1 + n → p j ≡ false → all_where p (from + 1) n ≡ false) → all_where p from (suc n) ≡ false
unfolding all_where
fail_by p from n j true is low high miss more =
    let e : j ≡ from = grind (arith, nat_tests) in
    let here : p from ≡ false = ap p (sym e) ∙ miss in
    rw here refl
fail_by p from n j false is low high miss more =
    let past : from < j = grind (arith, nat_tests) in
    rw (more (omega arith) (omega arith) miss) (and_false (p from))

pub all_fail : (p : ℕ → Bool) (from n j : ℕ) → from ≤ j → j < from + n → p j ≡ false → all_where p from n ≡ false
unfolding all_where
all_fail p from zero j low high miss = absurd (omega (arith, low, high))
all_fail p from (suc n) j low high miss = fail_by p from n j (nat_le j from) refl low high miss (all_fail p (from + 1) n j)

-- no run begins where a page of it doesn't pass, nor too near the end
pub no_run : (p : ℕ → Bool) (n first j : ℕ) → first ≤ j → j < first + n → p j ≡ false → is_run p n first ≡ false
unfolding is_run
no_run p n first j low high miss = rw (all_fail p first n j low high miss) (and_false (nat_le (first + n) page_count))

pub no_room : (p : ℕ → Bool) (n first : ℕ) → page_count < first + n → is_run p n first ≡ false
unfolding is_run
no_room p n first past = let e : nat_le (first + n) page_count ≡ false = grind (arith, nat_tests) in rw e refl

-- a run all of whose pages pass, none before it
pub run_is : (p : ℕ → Bool) (n first : ℕ) → 1 ≤ n → first + n ≤ page_count → ((j : ℕ) → j < first → is_run p n j ≡ false)
    → ((j : ℕ) → first ≤ j → j < first + n → p j ≡ true) → first_run p n ≡ Some first
unfolding first_run is_run
run_is p n first some fits none each =
    let e : nat_le (first + n) page_count ≡ true = grind (arith, nat_tests) in
    let all = all_are p first n each in
    let run : is_run p n first ≡ true = rw (e, all) refl in
    first_is (is_run p n) 0 page_count first (omega arith) (omega arith) (λ j a b. none j b) run

pub run_never : (p : ℕ → Bool) (n : ℕ) → ((j : ℕ) → j < page_count → is_run p n j ≡ false) → first_run p n ≡ None
unfolding first_run
run_never p n none = first_never (is_run p n) 0 page_count (λ j a b. none j (omega arith))

one_by : (p : ℕ → Bool) (page j : ℕ) (at : Bool) → nat_le page j ≡ at → j < page + 1 → (j < page → p j ≡ true) → p page ≡ true → p j ≡ true
one_by p page j true is high free here = let e : j ≡ page = grind (arith, nat_tests) in ap p e ∙ here
one_by p page j false is high free here = free (grind (arith, nat_tests))

pub one_more : (p : ℕ → Bool) (first page j : ℕ) → first ≤ j → j < page + 1 → ((j : ℕ) → first ≤ j → j < page → p j ≡ true) → p page ≡ true → p j ≡ true
one_more p first page j low high free here = one_by p page j (nat_le page j) refl high (free j low) here

-- The walk over the pages: no run begins below `first`, and the pages from it up to this one pass.
pub found : (p : ℕ → Bool) (n first page : ℕ) → 1 ≤ n → page < page_count → page + 1 ≡ first + n → first ≤ page
    → ((j : ℕ) → j < first → is_run p n j ≡ false) → ((j : ℕ) → first ≤ j → j < page → p j ≡ true) → p page ≡ true → first_run p n ≡ Some first
found p n first page some inside long begun none free here =
    run_is p n first some (omega arith) none (λ j low high. one_more p first page j low (omega arith) free here)

barred_by : (p : ℕ → Bool) (n first page : ℕ) → page < first + n → ((j : ℕ) → j < first → is_run p n j ≡ false) → p page ≡ false
    → (j : ℕ) → j < page + 1 → (at : Bool) → nat_le first j ≡ at → is_run p n j ≡ false
barred_by p n first page short none here j high true is = let low : first ≤ j = grind (arith, nat_tests) in no_run p n j page (omega arith) (omega arith) here
barred_by p n first page short none here j high false is = none j (grind (arith, nat_tests))

-- this page doesn't pass
pub barred : (p : ℕ → Bool) (n first page : ℕ) → page < first + n → ((j : ℕ) → j < first → is_run p n j ≡ false) → p page ≡ false
    → (j : ℕ) → j < page + 1 → is_run p n j ≡ false
barred p n first page short none here j high = barred_by p n first page short none here j high (nat_le first j) refl

never_by : (p : ℕ → Bool) (n first page : ℕ) → page_count ≤ page → page < first + n → ((j : ℕ) → j < first → is_run p n j ≡ false)
    → (j : ℕ) (at : Bool) → nat_le first j ≡ at → is_run p n j ≡ false
never_by p n first page end short none j true is = let low : first ≤ j = grind (arith, nat_tests) in no_room p n j (omega arith)
never_by p n first page end short none j false is = none j (grind (arith, nat_tests))

pub never : (p : ℕ → Bool) (n first page : ℕ) → page_count ≤ page → page < first + n → ((j : ℕ) → j < first → is_run p n j ≡ false) → first_run p n ≡ None
never p n first page end short none = run_never p n (λ j inside. never_by p n first page end short none j (nat_le first j) refl)
