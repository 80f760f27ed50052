-- A list of setup words, as the code changes it.
use Rattle.std.proofs.Common.{◌≡◌, ℕ, zero, suc, ◌==◌, nat_lt, if◌then◌else◌, List, [], ◌∷◌, ◌++◌, length, slice_index, refl, ◌∙◌, arith}

-- a list with one more word
pub with_last : (xs : List ℕ) (x i : ℕ) → slice_index (xs ++ x ∷ []) i ≡ (if nat_lt i (length xs) then slice_index xs i else (if i == length xs then x else 0))
with_last [] x zero = refl
with_last [] x (suc i) = grind arith
with_last (y ∷ xs) x zero = grind arith
with_last (y ∷ xs) x (suc i) = with_last xs x i ∙ grind arith
