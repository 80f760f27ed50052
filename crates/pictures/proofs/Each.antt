-- One part more.
use Rattle.std.proofs.Common.{◌≡◌, ◌+◌, ◌++◌, ℕ, ap, add-one}
use Rattle.pictures.specs.Forest.{Forest, forest_text}
use Rattle.pictures.specs.Parts.{each}

pub each_more : (part : ℕ → Forest) → (n : ℕ) → forest_text (each part (n + 1)) ≡ forest_text (each part n) ++ forest_text (part n)
each_more part n = ap (λ m. forest_text (each part m)) (add-one n)
