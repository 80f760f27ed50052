-- Numbers as words: decimal digits without sign and leading zero.
use Rattle.std.specs.Prelude.{ℕ, ◌+◌, ◌-◌, ◌*◌, ◌==◌, ◌&&◌, not, nat_le, Bool, false, List, [], ◌∷◌, Option, Some, None, if◌then◌else◌}
use Rattle.std.specs.Str.{all_ascii_digits}

-- the number that decimal digits write, behind those of another
unfoldable pub number_after : ℕ → List ℕ → ℕ
number_after number [] = number
number_after number (digit ∷ digits) = number_after (10 * number + (digit - 48)) digits

abbrev pub number_of : List ℕ → ℕ
number_of digits = number_after 0 digits

-- a number is written without sign and leading zero
unfoldable pub is_number : List ℕ → Bool
is_number [] = false
is_number (digit ∷ []) = all_ascii_digits (digit ∷ [])
is_number (digit ∷ next ∷ digits) = not (digit == 48) && all_ascii_digits (digit ∷ next ∷ digits)

-- the number that the word is, where it is one and not over the most that is allowed
unfoldable pub number_within : ℕ → List ℕ → Option ℕ
number_within most word = if is_number word && nat_le (number_of word) most then Some (number_of word) else None
