-- Numbers and their bytes, in both directions.
use Rattle.std.proofs.Common.{◌≡◌, ℕ, zero, suc, lit<, ◌+◌, ◌/◌, ◌%◌, ◌^◌, ◌<◌, ◌≤◌, List, [], ◌∷◌, length, take, drop, get_or, min, refl, sym, ap, arith, ◌∙◌}
use Rattle.std.proofs.lemmas.Nat.{le_bytes_2, le_bytes_4, from_le_bytes-to_le_bytes_2, from_le_bytes-to_le_bytes_4}
use Rattle.std.proofs.{lemmas.List.places, lemmas.List.get_or-drop, Math.Nat.mul-mod_left, lemmas.Grind.div_ceil_times}
use Rattle.std.specs.Int.{from_le_bytes, to_le_bytes, w16, w32}
use Rattle.field_words.specs.{Words.u16_at, Words.u32_at, Words.IsBytes, Words.IsRoundedUp, Words.rounded_up, Pieces.IsPiece}

-- Only the first two or four bytes count.
pub from_front_2 : (xs : List ℕ) → from_le_bytes w16 (take 2 xs) ≡ from_le_bytes w16 xs
from_front_2 [] = refl
from_front_2 (a ∷ []) = refl
from_front_2 (a ∷ (b ∷ xs)) = refl

pub from_front_4 : (xs : List ℕ) → from_le_bytes w32 (take 4 xs) ≡ from_le_bytes w32 xs
from_front_4 [] = refl
from_front_4 (a ∷ []) = refl
from_front_4 (a ∷ (b ∷ [])) = refl
from_front_4 (a ∷ (b ∷ (c ∷ []))) = refl
from_front_4 (a ∷ (b ∷ (c ∷ (d ∷ xs)))) = refl

-- A front and a rest of bytes are bytes.
pub front_bytes : (n : ℕ) (xs : List ℕ) → IsBytes xs → (i : ℕ) → get_or (take n xs) i 0 < 256
front_bytes zero xs fits i = lit< tt
front_bytes (suc n) [] fits i = lit< tt
front_bytes (suc n) (x ∷ xs) fits zero = fits 0
front_bytes (suc n) (x ∷ xs) fits (suc i) = front_bytes n xs (λ k. fits (suc k)) i

pub rest_bytes : (n : ℕ) (xs : List ℕ) → IsBytes xs → (i : ℕ) → get_or (drop n xs) i 0 < 256
rest_bytes n xs fits i = rw get_or-drop (fits (n + i))

-- Two or four bytes inside the list are the bytes of the number that they read as.
pub u16_piece : (bytes : List ℕ) (at : ℕ) → IsBytes bytes → at + 2 ≤ length bytes → IsPiece bytes at 2 (to_le_bytes w16 (u16_at bytes at))
unfolding u16_at
u16_piece bytes at fits inside =
    let front : List ℕ = take 2 (drop at bytes) in
    let long : length front ≡ 2 = grind (arith, places) in
    let small : (i : ℕ) → get_or front i 0 < 256 = front_bytes 2 (drop at bytes) (rest_bytes at bytes fits) in
    let same : to_le_bytes w16 (from_le_bytes w16 (drop at bytes)) ≡ front =
    le_bytes_2 front (from_le_bytes w16 (drop at bytes)) long small (sym (from_front_2 (drop at bytes))) in
    record { size = ap length same ∙ long; inside = inside; same = sym same }

pub u32_piece : (bytes : List ℕ) (at : ℕ) → IsBytes bytes → at + 4 ≤ length bytes → IsPiece bytes at 4 (to_le_bytes w32 (u32_at bytes at))
unfolding u32_at
u32_piece bytes at fits inside =
    let front : List ℕ = take 4 (drop at bytes) in
    let long : length front ≡ 4 = grind (arith, places) in
    let small : (i : ℕ) → get_or front i 0 < 256 = front_bytes 4 (drop at bytes) (rest_bytes at bytes fits) in
    let same : to_le_bytes w32 (from_le_bytes w32 (drop at bytes)) ≡ front =
    le_bytes_4 front (from_le_bytes w32 (drop at bytes)) long small (sym (from_front_4 (drop at bytes))) in
    record { size = ap length same ∙ long; inside = inside; same = sym same }

-- Where the bytes of a number stand, that number is read.
pub u16_of_piece : (bytes : List ℕ) (at n : ℕ) → n < 2 ^ 16 → IsPiece bytes at 2 (to_le_bytes w16 n) → u16_at bytes at ≡ n
unfolding u16_at
u16_of_piece bytes at n fits piece =
    sym (from_front_2 (drop at bytes)) ∙ ap (from_le_bytes w16) piece.same ∙ from_le_bytes-to_le_bytes_2 n fits

pub u32_of_piece : (bytes : List ℕ) (at n : ℕ) → n < 2 ^ 32 → IsPiece bytes at 4 (to_le_bytes w32 n) → u32_at bytes at ≡ n
unfolding u32_at
u32_of_piece bytes at n fits piece =
    sym (from_front_4 (drop at bytes)) ∙ ap (from_le_bytes w32) piece.same ∙ from_le_bytes-to_le_bytes_4 n fits

-- What is read fits its width.
pub u16_fits : (bytes : List ℕ) (at : ℕ) → IsBytes bytes → u16_at bytes at < 2 ^ 16
unfolding u16_at
u16_fits bytes at fits =
    let small : (i : ℕ) → get_or (drop at bytes) i 0 < 256 = rest_bytes at bytes fits in
    omega (arith, small 0, small 1)

pub u32_fits : (bytes : List ℕ) (at : ℕ) → IsBytes bytes → u32_at bytes at < 2 ^ 32
unfolding u32_at
u32_fits bytes at fits =
    let small : (i : ℕ) → get_or (drop at bytes) i 0 < 256 = rest_bytes at bytes fits in
    omega (arith, small 0, small 1, small 2, small 3)

-- Rounded up is the least multiple that is not below.
pub rounded : (n unit : ℕ) → 1 ≤ unit → IsRoundedUp n unit (rounded_up n unit)
unfolding rounded_up
rounded n unit positive =
    let bounds = div_ceil_times n unit positive in
    record { value = refl; multiple = mul-mod_left (n / unit + min 1 (n % unit)) unit; least = bounds.0; near = bounds.1 }
