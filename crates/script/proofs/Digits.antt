-- Numbers that stop at a limit, and their digits.
use Rattle.std.proofs.Common.{◌≡◌, ℕ, ◌+◌, ◌*◌, ◌-◌, ◌≤◌, ◌<◌, ◌==◌, ◌&&◌, not, Bool, true, false, min, List, [], ◌∷◌, length, get_or, drop, refl, sym, ◌∙◌, ap, arith, drop-cons, add-one}
use Rattle.std.proofs.{lemmas.Bool.and_parts, lemmas.List.drop_all}
use Rattle.std.specs.{Char.is_ascii_digit, Str.all_ascii_digits}
use Rattle.script.specs.Number.{number_after, is_number}

-- the digits from one place on
pub digits_at : (bytes : List ℕ) (i : ℕ) → i < length bytes
    → all_ascii_digits (drop i bytes) ≡ (is_ascii_digit (get_or bytes i 0) && all_ascii_digits (drop (i + 1) bytes))
digits_at bytes i inside =
    let e : drop i bytes ≡ get_or bytes i 0 ∷ drop (i + 1) bytes = rw add-one (drop-cons bytes i 0 inside) in
    ap all_ascii_digits e

pub all_digits_more : (bytes : List ℕ) (i : ℕ) (all : Bool) → i < length bytes → all_ascii_digits (drop i bytes) ≡ all
    → is_ascii_digit (get_or bytes i 0) ≡ true → all_ascii_digits (drop (i + 1) bytes) ≡ all
all_digits_more bytes i all inside before here =
    let e : all_ascii_digits (drop i bytes) ≡ (true && all_ascii_digits (drop (i + 1) bytes)) =
    digits_at bytes i inside ∙ ap (λ b. b && all_ascii_digits (drop (i + 1) bytes)) here in
    sym e ∙ before

pub all_digits_fail : (bytes : List ℕ) (i : ℕ) (all : Bool) → i < length bytes → all_ascii_digits (drop i bytes) ≡ all
    → is_ascii_digit (get_or bytes i 0) ≡ false → false ≡ all
all_digits_fail bytes i all inside before here =
    sym (digits_at bytes i inside ∙ ap (λ b. b && all_ascii_digits (drop (i + 1) bytes)) here) ∙ before

pub digits_after : (bytes : List ℕ) (i : ℕ) → i < length bytes → all_ascii_digits (drop i bytes) ≡ true → all_ascii_digits (drop (i + 1) bytes) ≡ true
digits_after bytes i inside before =
    (and_parts (is_ascii_digit (get_or bytes i 0)) (all_ascii_digits (drop (i + 1) bytes)) (sym (digits_at bytes i inside) ∙ before)).1

pub number_digits : (text : List ℕ) → is_number text ≡ true → all_ascii_digits text ≡ true
unfolding is_number
number_digits [] is = refl
number_digits (digit ∷ []) is = is
number_digits (digit ∷ next ∷ digits) is = (and_parts (not (digit == 48)) (all_ascii_digits (digit ∷ next ∷ digits)) is).1

min_min : (m b : ℕ) → min (min m b) b ≡ min m b
min_min m b = grind (arith)

step_min : (m b d : ℕ) → min (10 * min m b + d) b ≡ min (10 * m + d) b
step_min m b d = grind (arith)

-- what is cut off at a limit on the way doesn't change what is cut off at the end
pub saturates : (digits : List ℕ) (number limit : ℕ) → min (number_after (min number limit) digits) limit ≡ min (number_after number digits) limit
unfolding number_after
saturates [] number limit = min_min number limit
saturates (digit ∷ digits) number limit =
    sym (saturates digits (10 * min number limit + (digit - 48)) limit)
    ∙ (ap (λ n. min (number_after n digits) limit) (step_min number limit (digit - 48))
    ∙ saturates digits (10 * number + (digit - 48)) limit)

pub number_step : (digits : List ℕ) (i number limit : ℕ) → i < length digits
    → min (number_after (min (10 * number + (get_or digits i 0 - 48)) limit) (drop (i + 1) digits)) limit
    ≡ min (number_after number (drop i digits)) limit
unfolding number_after
number_step digits i number limit inside =
    let e : drop i digits ≡ get_or digits i 0 ∷ drop (i + 1) digits = rw add-one (drop-cons digits i 0 inside) in
    saturates (drop (i + 1) digits) (10 * number + (get_or digits i 0 - 48)) limit
    ∙ ap (λ ds. min (number_after number ds) limit) (sym e)

pub number_end : (digits : List ℕ) (i number limit : ℕ) → length digits ≤ i → number ≤ limit
    → min (number_after number (drop i digits)) limit ≡ number
unfolding number_after
number_end digits i number limit past low =
    let e : drop i digits ≡ [] = drop_all i digits past in
    ap (λ ds. min (number_after number ds) limit) e ∙ (omega arith)
