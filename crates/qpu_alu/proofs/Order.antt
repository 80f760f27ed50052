-- The laws by which an address is clamped.
use Rattle.std.proofs.Common.{◌≡◌, ℕ, suc, ◌-◌, ◌^◌, ◌<◌, ◌≤◌, arith, inl, inr, sym, ap, ◌∙◌, ℤ, pos, negsuc, if◌then◌else◌}
use Rattle.std.proofs.lemmas.Bool.{cases_lt, le-ltb}
use Rattle.std.proofs.lemmas.Int.{ints, clamps, to_z_pos, of_z-to_z}
use Rattle.std.specs.Int.{w32, cast_signed, cast_unsigned, int_min}
use Rattle.qpu_alu.specs.Operation.{signed_min, signed_max}

-- The greater of a number and 0 isn't negative.
pub signed_max_zero : (a : ℕ) → a < 2 ^ 32 → signed_max a 0 < 2 ^ 31
unfolding signed_max
signed_max_zero a fits = omega (arith, ints, clamps)

pub signed_max_zero_first : (a : ℕ) → a < 2 ^ 32 → signed_max 0 a < 2 ^ 31
unfolding signed_max
signed_max_zero_first a fits = omega (arith, ints, clamps)

-- The lesser of a number that isn't negative and any other is at most that other, as unsigned numbers.
upto_low : (a b : ℕ) → a < 2 ^ 31 → b < 2 ^ 31 → signed_min a b ≤ b
unfolding signed_min
upto_low a b low below = omega (arith, ints, clamps)

is_negative : (b : ℕ) → 2 ^ 31 ≤ b → cast_signed w32 b ≡ negsuc (2 ^ 32 - suc b)
is_negative b above = ap (λ t. if t then pos b else negsuc (2 ^ 32 - suc b)) (le-ltb b (2 ^ 31) above)

negative_least : (x y : ℤ) (a k : ℕ) → x ≡ pos a → y ≡ negsuc k → int_min x y ≡ y
negative_least x y a k p n = ap (λ v. int_min v y) p ∙ ap (λ v. int_min (pos a) v) n ∙ sym n

upto_high : (a b : ℕ) → a < 2 ^ 31 → 2 ^ 31 ≤ b → b < 2 ^ 32 → signed_min a b ≤ b
unfolding signed_min
upto_high a b low above fits =
    let least : int_min (cast_signed w32 a) (cast_signed w32 b) ≡ cast_signed w32 b =
    negative_least (cast_signed w32 a) (cast_signed w32 b) a (2 ^ 32 - suc b) (to_z_pos w32 a low) (is_negative b above) in
    let same : cast_unsigned w32 (int_min (cast_signed w32 a) (cast_signed w32 b)) ≡ b = ap (cast_unsigned w32) least ∙ of_z-to_z w32 b fits in
    omega (arith, same)

pub signed_min-upto : (a b : ℕ) → a < 2 ^ 31 → b < 2 ^ 32 → signed_min a b ≤ b
signed_min-upto a b low fits = elim (cases_lt b (2 ^ 31)) [ inl below ↦ upto_low a b low below | inr above ↦ upto_high a b low above fits ]
