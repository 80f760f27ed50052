-- The text of any bytes is read as these bytes.
use Rattle.std.proofs.Common.{◌≡◌, ℕ, zero, suc, ◌+◌, ◌*◌, ◌/◌, ◌%◌, ◌<◌, Bool, true, false, not, List, [], ◌∷◌, ◌++◌, length, take, drop, codes, Ok, Some, None, ◌&&◌, refl, sym, ◌∙◌, ap, append_assoc, append-nil, arith, eq-eqb}
use Rattle.std.proofs.lemmas.Bool.{eqb-true}
use Rattle.std.specs.Prelude.{slice_index, bytes_eq, ◌==◌}
use Rattle.hex.specs.Hex.{encode_lower, encode_with, lower_digits, hex_digit_value}
use Rattle.hex.proofs.HexLemmas.{IsDigits-lower_digits}
use Rattle.field_words.specs.Words.{IsBytes}
use Rattle.script.specs.Lines.{before, lines_of, onto_line}
use Rattle.job_text.proofs.Marks.{Free, free_append, free_before, free_by}
use Rattle.job_make.specs.Made.{Sections, words_of, full_of, is_alone, says, named_by, section_named, digits_read, size_named, word_by, word_read, words_read, line_read, part_read, stays_inside, lines_read, both, text_sections, text_bytes, is_blank}
use Rattle.job_text.specs.Shown.{Look, remark, is_in, is_past, is_left_out, reason_text, below_text, end_text, whole_line, line_text, lines_text, text_shown}
use Rattle.job_text.specs.{declared.note.Note.Note, declared.note.Note.TheVariants.Unread, declared.note.Piece.Piece}
use Rattle.qpu_text.specs.Pieces.{if_so}

before_mark : (mark : ℕ) (xs rest : List ℕ) → Free mark xs → before mark (xs ++ mark ∷ rest) ≡ xs
unfolding before
before_mark mark [] rest free = rw (eq-eqb mark mark refl) refl
before_mark mark (x ∷ xs) rest (here, free) = rw here (ap (λ l. x ∷ l) (before_mark mark xs rest free))

lines_line : (xs rest : List ℕ) → Free 10 xs → lines_of (xs ++ 10 ∷ rest) ≡ xs ∷ lines_of rest
unfolding lines_of
lines_line [] rest free = refl
lines_line (x ∷ xs) rest (here, free) = rw here (ap (onto_line x) (lines_line xs rest free))

-- a digit is no mark that is no digit, and no blank
digit_free : (mark d v : ℕ) → hex_digit_value mark ≡ None → hex_digit_value d ≡ Some v → (t : Bool) → (d == mark) ≡ t → t ≡ false
digit_free mark d v none some true e = let same : d ≡ mark = eqb-true d mark e in let clash : Some v ≡ None = sym some ∙ ap hex_digit_value same ∙ none in cc
digit_free mark d v none some false e = refl

free_digits : (mark : ℕ) (bytes : List ℕ) → hex_digit_value mark ≡ None → IsBytes bytes → Free mark (encode_lower bytes)
unfolding encode_with
free_digits mark [] none fits = tt
free_digits mark (b ∷ bytes) none fits =
    let small : b < 256 = fits 0 in
    let high = slice_index lower_digits (b / 16) in
    let low = slice_index lower_digits (b % 16) in (
      digit_free mark high (b / 16) none (IsDigits-lower_digits (b / 16) (omega arith)) (high == mark) refl,
      (
        digit_free mark low (b % 16) none (IsDigits-lower_digits (b % 16) (omega arith)) (low == mark) refl,
        free_digits mark bytes none (λ k. fits (suc k)),
      ),
    )

digit_not_blank : (d v : ℕ) → hex_digit_value d ≡ Some v → is_blank d ≡ false
unfolding is_blank
digit_not_blank d v some =
    rw (digit_free 32 d v refl some (d == 32) refl, digit_free 9 d v refl some (d == 9) refl, digit_free 13 d v refl some (d == 13) refl) refl

-- no byte is a blank
abbrev Solid : List ℕ → Type 0
Solid [] = Unit {0}
Solid (byte ∷ bytes) = (is_blank byte ≡ false) × Solid bytes

solid_digits : (bytes : List ℕ) → IsBytes bytes → Solid (encode_lower bytes)
unfolding encode_with
solid_digits [] fits = tt
solid_digits (b ∷ bytes) fits =
    let small : b < 256 = fits 0 in
    let high = slice_index lower_digits (b / 16) in
    let low = slice_index lower_digits (b % 16) in (
      digit_not_blank high (b / 16) (IsDigits-lower_digits (b / 16) (omega arith)),
      (digit_not_blank low (b % 16) (IsDigits-lower_digits (b % 16) (omega arith)), solid_digits bytes (λ k. fits (suc k))),
    )

words_word : (xs rest : List ℕ) → Solid xs → words_of (xs ++ 32 ∷ rest) ≡ xs ∷ words_of rest
unfolding words_of is_blank
words_word [] rest solid = refl
words_word (x ∷ xs) rest (here, solid) = rw here (ap (onto_line x) (words_word xs rest solid))

digits_back : (line column : ℕ) (bytes : List ℕ) → IsBytes bytes → digits_read line column (encode_lower bytes) ≡ Ok bytes
unfolding encode_with digits_read
digits_back line column [] fits = refl
digits_back line column (b ∷ bytes) fits =
    let small : b < 256 = fits 0 in
    let is_high = IsDigits-lower_digits (b / 16) (omega arith) in
    let is_low = IsDigits-lower_digits (b % 16) (omega arith) in
    let later = digits_back line (column + 2) bytes (λ k. fits (suc k)) in
    let whole : 16 * (b / 16) + b % 16 ≡ b = omega arith in
    rw (is_high, is_low, later) (ap (λ (n : ℕ). Ok (n ∷ bytes)) whole)

-- what begins with a digit names no number
no_size : (d v : ℕ) (ds : List ℕ) → hex_digit_value d ≡ Some v → size_named (before 58 (d ∷ ds)) ≡ None
unfolding before size_named
no_size d v ds some = rw (digit_free 58 d v refl some (d == 58) refl, digit_free 117 d v refl some (d == 117) refl) refl

word_back : (sections : Sections) (line column b : ℕ) (bytes : List ℕ) → IsBytes (b ∷ bytes) → word_read sections line column (encode_lower (b ∷ bytes)) ≡ Ok (b ∷ bytes)
unfolding word_read encode_with
word_back sections line column b bytes fits =
    let small : b < 256 = fits 0 in
    let is_high = IsDigits-lower_digits (b / 16) (omega arith) in
    let none : size_named (before 58 (encode_lower (b ∷ bytes))) ≡ None = no_size (slice_index lower_digits (b / 16)) (b / 16) _ is_high in
    ap (word_by sections line column (encode_lower (b ∷ bytes))) none ∙ digits_back line column (b ∷ bytes) fits

-- the digits of a line, behind which two blanks stand
front_back : (sections : Sections) (line column b : ℕ) (bytes : List ℕ) → IsBytes (b ∷ bytes) → words_read sections line column (words_of (encode_lower (b ∷ bytes) ++ codes "  ")) ≡ Ok (b ∷ bytes)
unfolding words_read words_of word_read digits_read before size_named is_blank
front_back sections line column b bytes fits =
    let digits = encode_lower (b ∷ bytes) in
    ap (words_read sections line column) (words_word digits (32 ∷ []) (solid_digits (b ∷ bytes) fits))
    ∙ ap (λ r. both r (words_read sections line (column + (length digits + 1)) (words_of (32 ∷ [])))) (word_back sections line column b bytes fits)
    ∙ ap (λ (l : List ℕ). Ok l) (append-nil (b ∷ bytes))

-- the only word of a line of digits
digits_only : (b : ℕ) (bytes line : List ℕ) → IsBytes (b ∷ bytes) → before 35 line ≡ encode_lower (b ∷ bytes) ++ codes "  "
    → full_of (words_of (before 35 line)) ≡ encode_lower (b ∷ bytes) ∷ []
unfolding full_of words_of is_blank encode_with
digits_only b bytes line fits front =
    ap (λ t. full_of (words_of t)) front ∙ ap full_of (words_word (encode_lower (b ∷ bytes)) (32 ∷ []) (solid_digits (b ∷ bytes) fits))

not_asm : (c d : ℕ) (cs : List ℕ) (t : Bool) → (c == 97) ≡ t → (d == 115) ≡ false → bytes_eq (c ∷ d ∷ cs) (codes "asm") ≡ false
not_asm c d cs true is other = rw (is, other) refl
not_asm c d cs false is other = rw is refl

-- it isn't `asm`
digits_plain : (b : ℕ) (bytes line : List ℕ) → IsBytes (b ∷ bytes) → full_of (words_of (before 35 line)) ≡ encode_lower (b ∷ bytes) ∷ []
    → says (codes "asm") line ≡ false
unfolding says encode_with
digits_plain b bytes line fits only =
    let small : b < 256 = fits 0 in
    let high = slice_index lower_digits (b / 16) in
    let low = slice_index lower_digits (b % 16) in
    ap (is_alone (codes "asm")) only
    ∙ not_asm high low (encode_lower bytes) (high == 97) refl (digit_free 115 low (b % 16) refl (IsDigits-lower_digits (b % 16) (omega arith)) (low == 115) refl)

-- nor does such a line name a section
digits_alone : (digits line : List ℕ) → full_of (words_of (before 35 line)) ≡ digits ∷ [] → section_named line ≡ None
unfolding section_named
digits_alone digits line only = ap named_by only

-- a line that neither says `asm` nor names a section is read by its words
plain_line : (sections : Sections) (n : ℕ) (line : List ℕ) (lines : List (List ℕ)) → says (codes "asm") line ≡ false → section_named line ≡ None
    → lines_read sections n false (line ∷ lines) ≡ both (line_read sections n line) (lines_read sections (n + 1) false lines)
unfolding lines_read part_read stays_inside
plain_line sections n line lines is none = rw (is, none) refl

-- a line's end behind its last part
to_end : (a b r m w rest : List ℕ) → (a ++ (b ++ (r ++ (m ++ 10 ∷ w)))) ++ rest ≡ (a ++ (b ++ (r ++ m))) ++ 10 ∷ (w ++ rest)
to_end a b r m w rest = simp append_assoc

to_mark : (a r : List ℕ) → a ++ (codes "  # " ++ r) ≡ (a ++ codes "  ") ++ 35 ∷ 32 ∷ r
to_mark a r = sym (append_assoc a (codes "  ") (35 ∷ 32 ∷ r))

free_mark : (is : Bool) → Free 10 (if_so is (codes " <== refused here"))
free_mark true = free_by 10 (codes " <== refused here") refl
free_mark false = tt

line_again : (sections : Sections) (look : Look) (n at b : ℕ) (bytes rest : List ℕ) (note : Note) (is : Bool) → IsBytes (b ∷ bytes)
    → lines_read sections n false (lines_of (whole_line look at (b ∷ bytes) note is ++ rest))
    ≡ both (Ok (b ∷ bytes)) (lines_read sections (n + 1) false (lines_of (below_text is look ++ rest)))
unfolding whole_line end_text remark
line_again sections look n at b bytes rest note is fits =
    let digits = encode_lower (b ∷ bytes) in
    let r = remark look.omitted at (b ∷ bytes) note in
    let m = if_so (is && not look.behind) (codes " <== refused here") in
    let w = below_text is look in
    let line = digits ++ (codes "  # " ++ (r ++ m)) in
    let free_note : Free 10 (r ++ m) = free_append 10 r m (free_before 10 _) (free_mark (is && not look.behind)) in
    let no_feed : Free 10 line =
    free_append 10 digits (codes "  # " ++ (r ++ m)) (free_digits 10 (b ∷ bytes) refl fits)
    (free_append 10 (codes "  # ") (r ++ m) (free_by 10 (codes "  # ") refl) free_note) in
    let no_mark : Free 35 (digits ++ codes "  ") = free_append 35 digits (codes "  ") (free_digits 35 (b ∷ bytes) refl fits) (free_by 35 (codes "  ") refl) in
    let front : before 35 line ≡ digits ++ codes "  " = ap (before 35) (to_mark digits (r ++ m)) ∙ before_mark 35 (digits ++ codes "  ") (32 ∷ (r ++ m)) no_mark in
    let only = digits_only b bytes line fits front in
    let read : line_read sections n line ≡ Ok (b ∷ bytes) = ap (λ t. words_read sections n 1 (words_of t)) front ∙ front_back sections n 1 b bytes fits in
    ap (λ t. lines_read sections n false (lines_of t)) (to_end digits (codes "  # ") r m w rest)
    ∙ ap (lines_read sections n false) (lines_line line (w ++ rest) no_feed)
    ∙ plain_line sections n line (lines_of (w ++ rest)) (digits_plain b bytes line fits only) (digits_alone digits line only)
    ∙ ap (λ x. both x (lines_read sections (n + 1) false (lines_of (w ++ rest)))) read

-- nothing is left out where contents aren't
line_kept : (look : Look) (at b : ℕ) (bytes : List ℕ) (note : Note) → look.omitted.contents ≡ false
    → line_text look at (b ∷ bytes) note ≡ whole_line look at (b ∷ bytes) note (is_in at (length (b ∷ bytes)) look.refused)
unfolding line_text is_left_out
line_kept look at b bytes note all = rw all refl

-- the reason holds no bytes
reason_again : (sections : Sections) (n : ℕ) (is : Bool) (why more rest : List ℕ)
    → ((m : ℕ) → lines_read sections m false (lines_of rest) ≡ Ok more)
    → lines_read sections n false (lines_of (reason_text is why ++ rest)) ≡ Ok more
unfolding reason_text words_read words_of full_of says section_named before is_blank
reason_again sections n false why more rest later = later n
reason_again sections n true why more rest later =
    let line = codes "# " ++ before 10 why in
    let no_feed : Free 10 line = free_append 10 (codes "# ") (before 10 why) (free_by 10 (codes "# ") refl) (free_before 10 why) in
    ap (λ t. lines_read sections n false (lines_of t)) (append_assoc line (codes "\n") rest)
    ∙ ap (lines_read sections n false) (lines_line line rest no_feed)
    ∙ plain_line sections n line (lines_of rest) refl refl
    ∙ ap (both (Ok [])) (later (n + 1))

-- nor does what stands below a line
below_again : (sections : Sections) (look : Look) (n : ℕ) (is : Bool) (more rest : List ℕ)
    → ((m : ℕ) → lines_read sections m false (lines_of rest) ≡ Ok more)
    → lines_read sections n false (lines_of (below_text is look ++ rest)) ≡ Ok more
unfolding below_text
below_again sections look n is more rest later =
    let mark = codes "<== refused here" in
    ap (λ t. lines_read sections n false (lines_of t)) (append_assoc (reason_text (is && look.behind) mark) (reason_text is look.why) rest)
    ∙ reason_again sections n (is && look.behind) mark more (reason_text is look.why ++ rest) (λ m. reason_again sections m is look.why more rest later)

-- the lines of some bytes, and of the bytes behind them
piece_again : (sections : Sections) (look : Look) (n at : ℕ) (bytes more rest : List ℕ) (note : Note) → look.omitted.contents ≡ false → IsBytes bytes
    → ((m : ℕ) → lines_read sections m false (lines_of rest) ≡ Ok more)
    → lines_read sections n false (lines_of (line_text look at bytes note ++ rest)) ≡ Ok (bytes ++ more)
unfolding line_text
piece_again sections look n at [] more rest note all fits later = later n
piece_again sections look n at (b ∷ bytes) more rest note all fits later =
    let is = is_in at (length (b ∷ bytes)) look.refused in
    ap (λ t. lines_read sections n false (lines_of (t ++ rest))) (line_kept look at b bytes note all)
    ∙ line_again sections look n at b bytes rest note is fits
    ∙ ap (both (Ok (b ∷ bytes))) (below_again sections look (n + 1) is more rest later)

bytes_take : (n : ℕ) (bytes : List ℕ) → IsBytes bytes → IsBytes (take n bytes)
bytes_take zero bytes fits k = omega arith
bytes_take (suc n) [] fits k = omega arith
bytes_take (suc n) (b ∷ bytes) fits zero = fits 0
bytes_take (suc n) (b ∷ bytes) fits (suc k) = bytes_take n bytes (λ i. fits (suc i)) k

bytes_drop : (n : ℕ) (bytes : List ℕ) → IsBytes bytes → IsBytes (drop n bytes)
bytes_drop zero bytes fits = fits
bytes_drop (suc n) [] fits = fits
bytes_drop (suc n) (b ∷ bytes) fits = bytes_drop n bytes (λ i. fits (suc i))

halves : (n : ℕ) (bytes : List ℕ) → take n bytes ++ drop n bytes ≡ bytes
halves zero bytes = refl
halves (suc n) [] = refl
halves (suc n) (b ∷ bytes) = ap (λ l. b ∷ l) (halves n bytes)

lines_again : (sections : Sections) (look : Look) (pieces : List Piece) (n at : ℕ) (bytes rest : List ℕ) → look.omitted.contents ≡ false → IsBytes bytes
    → ((m : ℕ) → lines_read sections m false (lines_of rest) ≡ Ok [])
    → lines_read sections n false (lines_of (lines_text look at bytes pieces ++ rest)) ≡ Ok bytes
unfolding lines_text
lines_again sections look [] n at bytes rest all fits later =
    piece_again sections look n at bytes [] rest Unread all fits later ∙ ap (λ (l : List ℕ). Ok l) (append-nil bytes)
lines_again sections look (piece ∷ pieces) n at bytes rest all fits later =
    let front = take piece.size bytes in
    let back = drop piece.size bytes in
    let others = lines_text look (at + length front) back pieces in
    ap (λ t. lines_read sections n false (lines_of t)) (append_assoc (line_text look at front piece.note) others rest)
    ∙ piece_again sections look n at front back (others ++ rest) piece.note all (bytes_take piece.size bytes fits)
    (λ m. lines_again sections look pieces m (at + length front) back rest all (bytes_drop piece.size bytes fits) later)
    ∙ ap (λ (l : List ℕ). Ok l) (halves piece.size bytes)

-- the reason at the end holds none either
last_again : (sections : Sections) (n : ℕ) (is : Bool) (why : List ℕ) → lines_read sections n false (lines_of (reason_text is why)) ≡ Ok []
unfolding lines_read lines_of
last_again sections n is why =
    ap (λ t. lines_read sections n false (lines_of t)) (sym (append-nil (reason_text is why))) ∙ reason_again sections n is why [] [] (λ m. refl)

pub shown_again : (look : Look) (bytes text : List ℕ) (pieces : List Piece) → look.omitted.contents ≡ false → IsBytes bytes
    → text ≡ text_shown look bytes pieces → text_bytes text ≡ Ok bytes
unfolding text_shown
shown_again look bytes text pieces all fits is =
    let past = is_past (length bytes) look.refused in
    let sections = text_sections (text_shown look bytes pieces) in
    ap text_bytes is
    ∙ lines_again sections look pieces 1 0 bytes (reason_text past look.why) all fits (λ m. last_again sections m past look.why)
