-- A surface's bytes are below 2^36.
use Rattle.std.proofs.Common.{ℕ, ◌*◌, ◌≤◌, ◌^◌, ◌<◌, arith}
use Rattle.texture_layouts.specs.Surface.{IsPixelSize}

product_limit : (a b cpp : ℕ) → a ≤ 65599 → b ≤ 65599 → cpp ≤ 8 → a * b * cpp ≤ 65599 * 65599 * 8
product_limit a b cpp h k l = grind arith

pixel_limit : (cpp : ℕ) → IsPixelSize cpp → cpp ≤ 8
pixel_limit cpp h = grind (arith, h)

pub product_fits : (a b cpp : ℕ) → a ≤ 65599 → b ≤ 65599 → IsPixelSize cpp → a * b * cpp < 2 ^ 36
product_fits a b cpp h k l = omega (arith, product_limit a b cpp h k (pixel_limit cpp l))
