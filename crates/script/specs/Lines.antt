-- Lines of a script, and the words on a line.
use Rattle.std.specs.Prelude.{ℕ, ◌+◌, ◌==◌, Bool, List, [], ◌∷◌, Option, Some, None, if◌then◌else◌}

-- what stands before the first such byte, or all where there is none
unfoldable pub before : ℕ → List ℕ → List ℕ
before mark [] = []
before mark (byte ∷ bytes) = if byte == mark then [] else byte ∷ before mark bytes

-- what stands behind the first such byte, or nothing where there is none
unfoldable pub behind : ℕ → List ℕ → List ℕ
behind mark [] = []
behind mark (byte ∷ bytes) = if byte == mark then bytes else behind mark bytes

-- a byte put before the first line, which it begins where there is none
abbrev pub onto_line : ℕ → List (List ℕ) → List (List ℕ)
onto_line byte [] = (byte ∷ []) ∷ []
onto_line byte (line ∷ lines) = (byte ∷ line) ∷ lines

-- Lines end at line feeds. The last one may lack it, and a line feed at the end opens no further line.
unfoldable pub lines_of : List ℕ → List (List ℕ)
lines_of [] = []
lines_of (byte ∷ bytes) = if byte == 10 then [] ∷ lines_of bytes else onto_line byte (lines_of bytes)

-- the number of the first line that isn't well formed, where lines count from a number on
unfoldable pub malformed_from : (List ℕ → Bool) → ℕ → List (List ℕ) → Option ℕ
malformed_from is_formed number [] = None
malformed_from is_formed number (line ∷ lines) = if is_formed line then malformed_from is_formed (number + 1) lines else Some number

-- the first malformed line of a whole script, whose lines count from 1
abbrev pub first_malformed : (List ℕ → Bool) → List ℕ → Option ℕ
first_malformed is_formed text = malformed_from is_formed 1 (lines_of text)
