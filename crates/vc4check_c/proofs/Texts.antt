-- A text at the front of some room, and a zero byte behind it.
use Rattle.std.proofs.Common.{◌≡◌, ◌<◌, ◌++◌, ℕ, List, [], ◌∷◌, length, drop, slice_set, refl, ap, arith}
use Rattle.vc4check_c.specs.Shader.{with_front}

pub zero_behind : (text old : List ℕ) → length text < length old → slice_set (text ++ drop (length text) old) (length text) 0 ≡ with_front old (text ++ (0 ∷ []))
zero_behind [] [] inside = absurd (omega (arith, inside))
zero_behind [] (o ∷ old) inside = refl
zero_behind (t ∷ text) [] inside = absurd (omega (arith, inside))
zero_behind (t ∷ text) (o ∷ old) inside = ap (λ l. t ∷ l) (zero_behind text old (omega (arith, inside)))
