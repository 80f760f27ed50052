-- The bytes below a face, level by level.
use Rattle.std.proofs.Common.{◌≡◌, ℕ, suc, ◌+◌, refl, ap, arith}
use Rattle.texture_layouts.specs.Setup.{TextureModel, size_at, size_below}

pub below_none : (t : TextureModel) → size_below t 0 ≡ 0
unfolding size_below
below_none t = refl

pub below_more : (t : TextureModel) (n : ℕ) → size_below t (n + 1) ≡ size_below t n + size_at t (n + 1)
unfolding size_below
below_more t n = let e : n + 1 ≡ suc n = omega arith in ap (size_below t) e
