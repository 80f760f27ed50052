-- The packet at the front of the bytes, and what is behind it.
use Rattle.std.proofs.Common.{◌≡◌, ℕ, min, List, length, take, drop, arith}
use Rattle.std.proofs.{lemmas.List.places, lemmas.Grind.same_number_lists}

pub drop_min : (n : ℕ) (bytes : List ℕ) → drop (min n (length bytes)) bytes ≡ drop n bytes
drop_min n bytes = same_number_lists _ _ (grind (arith, places)) (λ k below. grind (arith, places))

pub take_min : (n : ℕ) (bytes : List ℕ) → take (min n (length bytes)) bytes ≡ take n bytes
take_min n bytes = same_number_lists _ _ (grind (arith, places)) (λ k below. grind (arith, places))
