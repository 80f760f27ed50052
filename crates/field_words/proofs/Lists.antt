-- A list without its first item.
use Rattle.std.proofs.Common.{◌≡◌, List, [], ◌∷◌, length, drop, refl, arith}
use Rattle.std.specs.List.{remove}

pub remove_first : {X : Type 0} (xs : List X) → remove xs 0 ≡ drop 1 xs
remove_first [] = refl
remove_first (x ∷ xs) = refl

pub drop_none : {X : Type 0} (xs : List X) → length xs ≡ 0 → drop 1 xs ≡ xs
drop_none [] none = refl
drop_none (x ∷ xs) none = absurd (omega (arith, none))
