-- Lines and words of a text.
use Rattle.std.specs.Prelude.{ℕ, ◌-◌, ◌==◌, Bool, true, false, ◌&&◌, ◌||◌, List, [], ◌∷◌, filter, length, take, slice_index, if◌then◌else◌}
use Rattle.std.specs.{List.slice_split, List.list_all, Char.is_ascii_alphabetic, Char.is_ascii_digit}

unfoldable pub is_full : List ℕ → Bool
is_full [] = false
is_full (byte ∷ bytes) = true

-- words are parted by spaces
unfoldable pub words_of : List ℕ → List (List ℕ)
words_of line = filter is_full (slice_split (λ byte. byte == 32) line)

-- a name is a letter, and then letters, digits or `_`
unfoldable pub is_name_byte : ℕ → Bool
is_name_byte byte = is_ascii_alphabetic byte || (is_ascii_digit byte || byte == 95)

unfoldable pub is_name : List ℕ → Bool
is_name [] = false
is_name (byte ∷ bytes) = is_ascii_alphabetic byte && list_all is_name_byte bytes

-- What a line is: nothing (blank, or a comment), a label, a label's line that isn't well formed, or an instruction with its
-- first word and its items.
pub data Line : Type 0 where
  Blank : Line
  Label : List ℕ → Line
  BadLabel : Line
  Coded : List ℕ → List (List ℕ) → Line

-- a comment's first word begins with `#`
unfoldable pub is_comment : List ℕ → Bool
is_comment word = slice_index word 0 == 35

-- a label's line is one whose first word ends with `:`
unfoldable pub ends_label : List ℕ → Bool
ends_label word = slice_index word (length word - 1) == 58

abbrev pub is_alone : List (List ℕ) → Bool
is_alone [] = true
is_alone (word ∷ words) = false

-- the label's word stands alone, and is a name but for the `:`
unfoldable pub label_line : List ℕ → List (List ℕ) → Line
label_line name others = if is_name name && is_alone others then Label name else BadLabel

unfoldable pub line_of : List (List ℕ) → Line
line_of [] = Blank
line_of (word ∷ others) =
    if is_comment word then Blank
    else (if ends_label word then label_line (take (length word - 1) word) others else Coded word others)

unfoldable pub read_line : List ℕ → Line
read_line line = line_of (words_of line)
