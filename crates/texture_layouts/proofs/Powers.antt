-- The least power of two that is at least a number.
use Rattle.std.proofs.Common.{◌≡◌, ℕ, zero, suc, ◌+◌, ◌*◌, ◌/◌, ◌^◌, ◌<◌, ◌≤◌, max, Bool, true, false, refl, sym, ap, subst, arith, ◌∙◌, inl, inr, leb, if◌then◌else◌}
use Rattle.std.proofs.{Math.Nat.pow-succ', Math.Pow.pow_mono, lemmas.Nat.pow_pos, lemmas.Nat.shr_le}
use Rattle.std.proofs.lemmas.Bool.{leb-true, leb-false, cases_order, cases_lt}
use Rattle.std.specs.Int.{IsPowerOfTwo, IsNextPowerOfTwo}
use Rattle.texture_layouts.specs.Level.{power_from, power_above}

-- One doubling more.
double : (k : ℕ) → 2 ^ (k + 1) ≡ 2 * 2 ^ k
double k = let e : k + 1 ≡ suc k = omega arith in ap (λ m. 2 ^ m) e ∙ pow-succ' 2 k

choice : (n k rest : ℕ) (b : Bool) → (b ≡ true → IsNextPowerOfTwo n (2 ^ k)) → (b ≡ false → IsNextPowerOfTwo n rest)
    → IsNextPowerOfTwo n (if b then 2 ^ k else rest)
choice n k rest true here on = here refl
choice n k rest false here on = on refl

least_from : (n k left : ℕ) → 2 ^ k / 2 < max 1 n → n ≤ 2 ^ (k + left) → IsNextPowerOfTwo n (power_from n k left)
unfolding power_from
least_from n k zero before room =
    let e : k + 0 ≡ k = omega arith in
    ((k, refl), subst (λ m. n ≤ 2 ^ m) e room, before)
least_from n k (suc left) before room =
    choice n k (power_from n (k + 1) left) (leb n (2 ^ k))
    (λ under. ((k, refl), leb-true n (2 ^ k) under, before))
    (λ past.
    let over : 2 ^ k < n = leb-false n (2 ^ k) past in
    let twice = double k in
    let e : k + suc left ≡ (k + 1) + left = omega arith in
    least_from n (k + 1) left (omega arith) (subst (λ m. n ≤ 2 ^ m) e room))

-- The definition is the least power of two, for numbers up to 2^16.
pub power_is : (n : ℕ) → n ≤ 2 ^ 16 → IsNextPowerOfTwo n (power_above n)
unfolding power_above
power_is n room = least_from n 0 16 (omega arith) room

-- Where 2^j is the least power of two that is at least n, no smaller power of two is.
not_past : (n i j : ℕ) → n ≤ 2 ^ i → 2 ^ j / 2 < max 1 n → i < j → ⊥
not_past n i zero up near below = omega arith
not_past n i (suc j) up near below =
    let le : 2 ^ i ≤ 2 ^ j = pow_mono (let h : i ≤ j = omega arith in h) in
    let twice : 2 ^ suc j ≡ 2 * 2 ^ j = pow-succ' 2 j in
    let some = pow_pos j in
    omega arith

same_power : (n i j : ℕ) → n ≤ 2 ^ i → n ≤ 2 ^ j → 2 ^ i / 2 < max 1 n → 2 ^ j / 2 < max 1 n → 2 ^ i ≡ 2 ^ j
same_power n i j up_i up_j near_i near_j =
    elim (cases_order i j) [
      | inl same ↦ ap (λ m. 2 ^ m) same
      | inr (inl below) ↦ absurd (not_past n i j up_i near_j below)
      | inr (inr above) ↦ absurd (not_past n j i up_j near_i above)
    ]

-- There is only one.
pub only_power : (n p q : ℕ) → IsNextPowerOfTwo n p → IsNextPowerOfTwo n q → p ≡ q
only_power n p q one two =
    let i : ℕ = one.0.0 in
    let j : ℕ = two.0.0 in
    let p_is : p ≡ 2 ^ i = one.0.1 in
    let q_is : q ≡ 2 ^ j = two.0.1 in
    p_is
    ∙ same_power n i j (subst (λ m. n ≤ m) p_is one.1) (subst (λ m. n ≤ m) q_is two.1)
    (subst (λ m. m / 2 < max 1 n) p_is one.2) (subst (λ m. m / 2 < max 1 n) q_is two.2)
    ∙ sym q_is

-- The power of a side of a texture is at most 2,048.
power_at_most : (n k : ℕ) → n ≤ 2048 → 2 ^ k / 2 < max 1 n → 2 ^ k ≤ 2048
power_at_most n k side near =
    elim (cases_lt k 12) [
      | inl below ↦ pow_mono (let h : k ≤ 11 = omega arith in h)
      | inr above ↦ let le : 2 ^ 12 ≤ 2 ^ k = pow_mono above in omega arith
    ]

pub power_above-limit : (side : ℕ) → side ≤ 2048 → power_above side ≤ 2048
power_above-limit side limit =
    let found = power_is side (let room : side ≤ 2 ^ 16 = omega arith in room) in
    let is : power_above side ≡ 2 ^ found.0.0 = found.0.1 in
    subst (λ m. m ≤ 2048) (sym is) (power_at_most side found.0.0 limit (subst (λ m. m / 2 < max 1 side) is found.2))

-- What the library finds for a side is that power.
pub power_found : (side p : ℕ) → side ≤ 2048 → IsPowerOfTwo p → side ≤ p → p / 2 < max 1 side → p ≡ power_above side
power_found side p limit power up near =
    only_power side p (power_above side) (power, up, near) (power_is side (let room : side ≤ 2 ^ 16 = omega arith in room))

pub shifted : (p level : ℕ) → p ≤ 2048 → p / 2 ^ level ≤ 2048
shifted p level limit = omega (arith, shr_le p level)
