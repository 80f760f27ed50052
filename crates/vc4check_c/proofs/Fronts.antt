-- Writing over a list from its front on.
use Rattle.std.proofs.Common.{◌≡◌, ℕ, zero, suc, ◌<◌, ◌≤◌, List, [], ◌∷◌, ◌++◌, length, get_or, map, take, drop, slice_set, ap, arith}

-- one more of the front
pub one_more : {X Y : Type 0} (f : X → Y) (xs : List X) (old : List Y) (k : ℕ) (x : X) → k < length xs → length xs ≤ length old → x ≡ get_or xs k x
    → slice_set (map f (take k xs) ++ drop k old) k (f x) ≡ map f (take (suc k) xs) ++ drop (suc k) old
one_more f [] old k x inside room is = absurd (omega arith)
one_more f (y ∷ xs) [] k x inside room is = absurd (omega arith)
one_more f (y ∷ xs) (o ∷ old) zero x inside room is = ap (λ z. f z ∷ old) is
one_more f (y ∷ xs) (o ∷ old) (suc k) x inside room is = ap (λ l. f y ∷ l) (one_more f xs old k x (omega arith) (omega arith) is)
