-- A number that was written in decimal is read back.
use Rattle.std.proofs.Common.{◌≡◌, ◌≢◌, ℕ, zero, suc, ◌+◌, ◌*◌, ◌-◌, ◌^◌, ◌<◌, true, not, ◌==◌, List, [], ◌∷◌, length, get_or, refl, ap, arith, ne_eqb, decimal}
use Rattle.std.proofs.lemmas.Fmt.{decimal_nonempty, first_decimal, digits_decimal, digits_value-decimal, decimal_digit}
use Rattle.std.proofs.lemmas.Bool.{and_from}
use Rattle.std.proofs.lemmas.Str.Parse.{IsNumeralModel, numerals_by_fold, tells_all_ascii_digits}
use Rattle.std.specs.Str.{all_ascii_digits}
use Rattle.script.specs.Number.{number_after, number_of, is_number}

numbers_fold : (n c : ℕ) (cs : List ℕ) → number_after n (c ∷ cs) ≡ number_after (n * 10 + (c - 48)) cs
unfolding number_after
numbers_fold n c cs = let same : 10 * n + (c - 48) ≡ n * 10 + (c - 48) = omega arith in ap (λ m. number_after m cs) same

numeral : IsNumeralModel (λ ds. all_ascii_digits ds ≡ true) (number_after 0)
unfolding number_after
numeral = numerals_by_fold (λ ds. all_ascii_digits ds ≡ true) tells_all_ascii_digits number_after (record { empty = λ n. refl; more = λ n c cs k. numbers_fold n c cs })

pub decimal_digits : (n : ℕ) → n < 2 ^ 64 → all_ascii_digits (decimal n) ≡ true
decimal_digits n small = digits_decimal numeral n small

pub decimal_value : (n : ℕ) → n < 2 ^ 64 → number_of (decimal n) ≡ n
decimal_value n small = digits_value-decimal numeral n small

number_from : (digits : List ℕ) → all_ascii_digits digits ≡ true → 0 < length digits → get_or digits 0 0 ≢ 48 → is_number digits ≡ true
unfolding is_number
number_from [] all full first = absurd (omega arith)
number_from (digit ∷ []) all full first = all
number_from (digit ∷ next ∷ digits) all full first =
    and_from (not (digit == 48)) (all_ascii_digits (digit ∷ next ∷ digits)) (ap not (ne_eqb digit 48 first)) all

pub decimal_number : (n : ℕ) → n < 2 ^ 64 → is_number (decimal n) ≡ true
unfolding is_number
decimal_number zero small = ap is_number (decimal_digit 0 (omega arith))
decimal_number (suc n) small =
    let lead = first_decimal (suc n) (omega arith) small in
    number_from (decimal (suc n)) (decimal_digits (suc n) small) (decimal_nonempty (suc n) small) (λ is. omega (arith, lead, is))
