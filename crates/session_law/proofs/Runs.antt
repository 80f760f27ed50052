-- A run of pages that was found: each of its pages is free.
use Rattle.std.proofs.Common.{◌≡◌, ◌<◌, ◌≤◌, ◌&&◌, ◌+◌, nat_le, ℕ, zero, suc, Bool, true, false, slice_index, Some, refl, arith}
use Rattle.std.proofs.lemmas.Bool.Decides.{nat_tests}
use Rattle.overflow_slots.proofs.Searches.{first_found}
use Rattle.session_pages.specs.{Runs.page_count, Runs.all_where, Runs.is_run, Runs.first_run, Map.PageMap, Map.free_run, Map.is_free}
use Rattle.std.proofs.lemmas.Bool.{eqb-true}

pub both_true : (a b : Bool) → (a && b) ≡ true → (a ≡ true) × (b ≡ true)
both_true true true is = (refl, refl)
both_true true false is = (refl, is)
both_true false b is = let no : false ≡ true = is in absurd (grind (arith, no))

pub all_found : (p : ℕ → Bool) (from n k : ℕ) → all_where p from n ≡ true → from ≤ k → k < from + n → p k ≡ true
unfolding all_where
all_found p from zero k is low high = absurd (omega (arith, low, high))
all_found p from (suc n) k is low high =
    let both = both_true (p from) (all_where p (from + 1) n) is in
    found_by p from n k both.0 low high (all_found p (from + 1) n k both.1) (nat_le k from) refl
  where
    found_by : (p : ℕ → Bool) (from n k : ℕ) → p from ≡ true → from ≤ k → k < from + suc n → (from + 1 ≤ k → k < from + 1 + n → p k ≡ true)
        → (b : Bool) → nat_le k from ≡ b → p k ≡ true
    found_by p from n k here low high later true is = let e : k ≡ from = grind (arith, nat_tests) in rw e here
    found_by p from n k here low high later false is = let past : from < k = grind (arith, nat_tests) in later (omega arith) (omega arith)

-- the run lies inside, and is free
pub run_found : (map : PageMap) (pages first : ℕ) → free_run map pages ≡ Some first
    → (first + pages ≤ page_count) × ((page : ℕ) → first ≤ page → page < first + pages → slice_index map.owners page ≡ 0)
unfolding first_run is_run
run_found map pages first is =
    let found = first_found (is_run (is_free map.owners) pages) 0 page_count first is in
    let both = both_true (nat_le (first + pages) page_count) (all_where (is_free map.owners) first pages) found.1 in
    let low : nat_le (first + pages) page_count ≡ true = both.0 in (
      grind (arith, nat_tests),
      λ page from below. eqb-true (slice_index map.owners page) 0 (all_found (is_free map.owners) first pages page both.1 from below),
    )
