-- A place's eight digits are those of its four bytes, the highest first.
use Rattle.std.proofs.Common.{◌*◌, ◌≡◌, ℕ, zero, suc, ◌+◌, ◌-◌, ◌/◌, ◌%◌, ◌^◌, ◌<◌, ◌≤◌, List, [], ◌∷◌, ◌++◌, length, replicate, codes, false, refl, sym, ap, ◌∙◌, arith}
use Rattle.std.proofs.Math.Dec.{eqb-suc-zero}
use Rattle.field_words.specs.Writes.{with_bytes}
use Rattle.hex.proofs.HexLemmas.{length-encode_with}
use Rattle.std.specs.{Prelude.◌==◌, Prelude.slice_index, Prelude.if◌then◌else◌, Fmt.digits, Fmt.digits_onto, Fmt.digit_glyph}
use Rattle.std.specs.Int.{to_be_bytes, w32}
use Rattle.hex.specs.Hex.{encode_lower, encode_with, lower_digits}
use Rattle.dumper.specs.Text.{place_text}

-- the last k digits of a number, in front of others
abbrev last_digits : ℕ → ℕ → List ℕ → List ℕ
last_digits zero n others = others
last_digits (suc k) n others = last_digits k (n / 16) (digit_glyph false (n % 16) ∷ others)

-- a number of at most k digits
abbrev HasDigits : ℕ → ℕ → Type 0
HasDigits zero n = n ≡ 0
HasDigits (suc k) n = HasDigits k (n / 16)

zero_before : (k : ℕ) (others : List ℕ) → replicate k 48 ++ (48 ∷ others) ≡ replicate (suc k) 48 ++ others
zero_before zero others = refl
zero_before (suc k) others = ap (λ l. 48 ∷ l) (zero_before k others)

zeros_before : (k : ℕ) (others : List ℕ) → last_digits k 0 others ≡ replicate k 48 ++ others
zeros_before zero others = refl
zeros_before (suc k) others = zeros_before k (48 ∷ others) ∙ zero_before k others

-- the digits of a number in front of others, and none for 0
abbrev front : ℕ → ℕ → List ℕ → List ℕ
front fuel n others = if n == 0 then others else digits_onto fuel 16 false n others

padded : (k fuel n : ℕ) (others : List ℕ) → HasDigits k n → k ≤ fuel
    → replicate (k + length others - length (front fuel n others)) 48 ++ front fuel n others ≡ last_digits k n others
padded k fuel zero others has fuels =
    let short : k + length others - length others ≡ k = omega arith in
    ap (λ n. replicate n 48 ++ others) short ∙ sym (zeros_before k others)
padded zero fuel (suc n) others has fuels = absurd (omega (arith, has))
padded (suc k) zero (suc n) others has fuels = absurd (omega (arith, fuels))
padded (suc k) (suc fuel) (suc n) others has fuels =
    let digit = digit_glyph false (suc n % 16) in
    let shown = front fuel (suc n / 16) (digit ∷ others) in
    let some : front (suc fuel) (suc n) others ≡ shown = ap (λ t. if t then others else shown) (eqb-suc-zero n) in
    let shift : suc k + length others ≡ k + length (digit ∷ others) = omega arith in
    ap (λ l. replicate (suc k + length others - length l) 48 ++ l) some
    ∙ ap (λ m. replicate (m - length shown) 48 ++ shown) shift
    ∙ padded k fuel (suc n / 16) (digit ∷ others) has (omega (arith, fuels))

eight_digits : (place : ℕ) → place < 2 ^ 32 → place_text place ≡ last_digits 8 place []
unfolding place_text digits
eight_digits place small =
    let has : HasDigits 8 place = omega arith in
    padded 7 63 (place / 16) (digit_glyph false (place % 16) ∷ []) has (omega arith)

-- the digits of the two spellings are the same
glyph_is : (d : ℕ) → d < 16 → digit_glyph false d ≡ slice_index lower_digits d
glyph_is zero small = refl
glyph_is (suc zero) small = refl
glyph_is (suc (suc zero)) small = refl
glyph_is (suc (suc (suc zero))) small = refl
glyph_is (suc (suc (suc (suc zero)))) small = refl
glyph_is (suc (suc (suc (suc (suc zero))))) small = refl
glyph_is (suc (suc (suc (suc (suc (suc zero)))))) small = refl
glyph_is (suc (suc (suc (suc (suc (suc (suc zero))))))) small = refl
glyph_is (suc (suc (suc (suc (suc (suc (suc (suc zero)))))))) small = refl
glyph_is (suc (suc (suc (suc (suc (suc (suc (suc (suc zero))))))))) small = refl
glyph_is (suc (suc (suc (suc (suc (suc (suc (suc (suc (suc zero)))))))))) small = refl
glyph_is (suc (suc (suc (suc (suc (suc (suc (suc (suc (suc (suc zero))))))))))) small = refl
glyph_is (suc (suc (suc (suc (suc (suc (suc (suc (suc (suc (suc (suc zero)))))))))))) small = refl
glyph_is (suc (suc (suc (suc (suc (suc (suc (suc (suc (suc (suc (suc (suc zero))))))))))))) small = refl
glyph_is (suc (suc (suc (suc (suc (suc (suc (suc (suc (suc (suc (suc (suc (suc zero)))))))))))))) small = refl
glyph_is (suc (suc (suc (suc (suc (suc (suc (suc (suc (suc (suc (suc (suc (suc (suc zero))))))))))))))) small = refl
glyph_is (suc (suc (suc (suc (suc (suc (suc (suc (suc (suc (suc (suc (suc (suc (suc (suc d)))))))))))))))) small = absurd (omega (arith, small))

digit_is : (d e : ℕ) → d < 16 → d ≡ e → digit_glyph false d ≡ slice_index lower_digits e
digit_is d e small same = glyph_is d small ∙ ap (slice_index lower_digits) same

pub place_is : (place : ℕ) → place < 2 ^ 32 → encode_lower (to_be_bytes w32 place) ≡ place_text place
unfolding encode_with
place_is place small =
    let at7 = digit_is (place % 16) (place % 256 % 16) (omega arith) (omega arith) in
    let at6 = digit_is (place / 16 % 16) (place % 256 / 16) (omega arith) (omega arith) in
    let at5 = digit_is (place / 16 / 16 % 16) (place / 256 % 256 % 16) (omega arith) (omega arith) in
    let at4 = digit_is (place / 16 / 16 / 16 % 16) (place / 256 % 256 / 16) (omega arith) (omega arith) in
    let at3 = digit_is (place / 16 / 16 / 16 / 16 % 16) (place / 65536 % 256 % 16) (omega arith) (omega arith) in
    let at2 = digit_is (place / 16 / 16 / 16 / 16 / 16 % 16) (place / 65536 % 256 / 16) (omega arith) (omega arith) in
    let at1 = digit_is (place / 16 / 16 / 16 / 16 / 16 / 16 % 16) (place / 16777216 % 256 % 16) (omega arith) (omega arith) in
    let at0 = digit_is (place / 16 / 16 / 16 / 16 / 16 / 16 / 16 % 16) (place / 16777216 % 256 / 16) (omega arith) (omega arith) in
    sym (eight_digits place small ∙ (λ i. at0 i ∷ at1 i ∷ at2 i ∷ at3 i ∷ at4 i ∷ at5 i ∷ at6 i ∷ at7 i ∷ []))

-- The digits of a place in place of eight characters are its text.
pub place_put : (place : ℕ) → place < 2 ^ 32 → with_bytes (codes "........") 0 (encode_lower (to_be_bytes w32 place)) ≡ place_text place
unfolding encode_with
place_put place small = place_is place small

-- two digits for each byte
pub digits_long : (bytes : List ℕ) → length (encode_lower bytes) ≡ 2 * length bytes
digits_long bytes = omega (arith, length-encode_with lower_digits bytes)
