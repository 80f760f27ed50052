-- Products of sides fit.
use Rattle.std.proofs.{Common.ℕ, Common.◌*◌, Common.◌≤◌, Common.arith, lemmas.Nat.mul-le}
use Rattle.texture_layouts.specs.Surface.{IsPixelSize}

pub rows_limit : (a b c : ℕ) → a ≤ 4096 → b ≤ 4096 → IsPixelSize c → (a * b * c ≤ 134217728) × (a * b ≤ 16777216)
rows_limit a b c first second pixel =
    let few : c ≤ 8 = grind (arith, pixel) in
    let sides : a * b ≤ 4096 * 4096 = mul-le a b 4096 4096 first second in
    let all : a * b * c ≤ 4096 * 4096 * 8 = mul-le (a * b) c (4096 * 4096) 8 sides few in
    (omega (arith, all), omega (arith, sides))
