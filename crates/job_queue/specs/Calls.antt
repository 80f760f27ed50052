-- The lines of a script, and the calls that they are.
use Rattle.std.specs.Prelude.{ℕ, is_some, ◌==◌, ◌||◌, ◌&&◌, Bool, true, bytes_eq, codes, List, [], ◌∷◌, flat_map, Option, Some, None, option_to_list, if◌then◌else◌}
use Rattle.script.specs.{Lines.before, Lines.behind, Lines.first_malformed, Lines.onto_line, Number.number_within}
use Rattle.job_queue.specs.declared.call.Call.TheVariants.{Submit, Start, Bin, Render}
use Rattle.job_queue.specs.declared.call.Call.{Call}

abbrev pub last_number : ℕ
last_number = 4294967295

-- what commas part; no comma leaves one part
unfoldable pub parts_of : List ℕ → List (List ℕ)
parts_of [] = [] ∷ []
parts_of (byte ∷ bytes) = if byte == 44 then [] ∷ parts_of bytes else onto_line byte (parts_of bytes)

unfoldable pub are_all_numbers : List (List ℕ) → Bool
are_all_numbers [] = true
are_all_numbers (word ∷ words) = is_some (number_within last_number word) && are_all_numbers words

-- the numbers among words
unfoldable pub numbers_in : List (List ℕ) → List ℕ
numbers_in words = flat_map (λ word. option_to_list (number_within last_number word)) words

-- a job's buffers are `-` for none, or numbers parted by commas
unfoldable pub are_numbers : List ℕ → Bool
are_numbers word = are_all_numbers (parts_of word)

unfoldable pub are_buffers : List ℕ → Bool
are_buffers word = bytes_eq word (codes "-") || are_numbers word

-- the buffers of such a word: `-` is no number, and so none
unfoldable pub buffers_of : List ℕ → List ℕ
buffers_of word = numbers_in (parts_of word)

-- `submit <reads> <writes>`: what it reads, and what it writes
abbrev pub reads_word : List ℕ → List ℕ
reads_word line = before 32 (behind 32 line)

abbrev pub writes_word : List ℕ → List ℕ
writes_word line = behind 32 (behind 32 line)

abbrev pub is_submit : List ℕ → Bool
is_submit line = bytes_eq (before 32 line) (codes "submit") && (are_buffers (reads_word line) && are_buffers (writes_word line))

-- the call that a line is
unfoldable pub call_of : List ℕ → Option Call
call_of line =
    if bytes_eq line (codes "start") then Some Start
    else (if bytes_eq line (codes "bin") then Some Bin
    else (if bytes_eq line (codes "render") then Some Render
    else (if is_submit line then Some Submit else None)))

unfoldable pub is_formed : List ℕ → Bool
is_formed line = is_some (call_of line)

-- the number of a script's first line that is no call
unfoldable pub fault_line : List ℕ → Option ℕ
fault_line text = first_malformed is_formed text
