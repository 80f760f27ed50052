-- The place of a fault on its line.
use Rattle.std.proofs.Common.{◌≡◌, ◌≢◌, ℕ, ◌+◌, ◌≤◌, ◌<◌, Bool, true, false, ◌==◌, List, [], ◌∷◌, length, slice_index, refl, sym, ◌∙◌, ap, arith, suc, subst, min, if◌then◌else◌}
use Rattle.std.specs.{Prelude.slice_index_or}
use Rattle.std.specs.declared.option.Option.TheVariants.{None, Some}
use Rattle.script.specs.Lines.{before, behind, lines_of, onto_line}
use Rattle.qpu_asm.specs.Place.{Word, placed_words, wanted_item, is_of, item_place, code_place, words_place}
use Rattle.qpu_asm.specs.{declared.fault.Mistake.Mistake, Table.Row, Items.Spots, Items.kind_named}
use Rattle.qpu_asm.specs.{Faults.rows_after, Faults.item_mistakes, declared.place.Opcode.Opcode, Lines.Line, Lines.Coded}
use Rattle.qpu_asm.proofs.Words.{placed_first, placed_none}

-- the first line of a text is no longer than the text
abbrev head_or : List ℕ → List (List ℕ) → List ℕ
head_or other [] = other
head_or other (line ∷ lines) = line

onto_short : (byte n : ℕ) (lines : List (List ℕ)) (first : List ℕ) (others : List (List ℕ)) → onto_line byte lines ≡ first ∷ others
    → ((head : List ℕ) (tail : List (List ℕ)) → lines ≡ head ∷ tail → length head ≤ n) → length first ≤ suc n
onto_short byte n [] first others is short = subst (λ l. length l ≤ suc n) (ap (head_or []) is) (omega arith)
onto_short byte n (line ∷ lines) first others is short =
    let low : length line ≤ n = short line lines refl in
    subst (λ l. length l ≤ suc n) (ap (head_or []) is) (omega (arith, low))

line_by : (byte : ℕ) (bytes : List ℕ) (end : Bool) (first : List ℕ) (others : List (List ℕ)) → (if end then [] ∷ lines_of bytes else onto_line byte (lines_of bytes)) ≡ first ∷ others
    → ((head : List ℕ) (tail : List (List ℕ)) → lines_of bytes ≡ head ∷ tail → length head ≤ length bytes) → length first ≤ suc (length bytes)
line_by byte bytes true first others is short = subst (λ l. length l ≤ suc (length bytes)) (ap (head_or []) is) (omega arith)
line_by byte bytes false first others is short = onto_short byte (length bytes) (lines_of bytes) first others is short

pub line_short : (text first : List ℕ) (others : List (List ℕ)) → lines_of text ≡ first ∷ others → length first ≤ length text
unfolding lines_of
line_short [] first others is = absurd (omega (arith, ap length is))
line_short (byte ∷ bytes) first others is = line_by byte bytes (byte == 10) first others is (line_short bytes)

pub line_none : (text : List ℕ) (left : ℕ) → length text ≤ 0 → slice_index_or (lines_of text) left [] ≡ []
unfolding lines_of
line_none [] left none = refl
line_none (byte ∷ bytes) left none = absurd (omega arith)

-- a byte at which a text is cut is in neither part
cut_by : (mark byte : ℕ) (bytes : List ℕ) (here : Bool) → length (before mark bytes) + length (behind mark bytes) ≤ length bytes
    → length (if here then [] else byte ∷ before mark bytes) + length (if here then bytes else behind mark bytes) ≤ suc (length bytes)
cut_by mark byte bytes true short = omega arith
cut_by mark byte bytes false short = omega (arith, short)

pub cut_short : (mark : ℕ) (bytes : List ℕ) → length (before mark bytes) + length (behind mark bytes) ≤ length bytes
unfolding before behind
cut_short mark [] = omega arith
cut_short mark (byte ∷ bytes) = cut_by mark byte bytes (byte == mark) (cut_short mark bytes)

tight_by : (mark byte : ℕ) (bytes : List ℕ) (here : Bool) → (length (before mark bytes) < length bytes → length (before mark bytes) + 1 + length (behind mark bytes) ≤ length bytes)
    → length (if here then [] else byte ∷ before mark bytes) < suc (length bytes)
    → length (if here then [] else byte ∷ before mark bytes) + 1 + length (if here then bytes else behind mark bytes) ≤ suc (length bytes)
tight_by mark byte bytes true tight low = omega arith
tight_by mark byte bytes false tight low = let more = tight (omega (arith, low)) in omega (arith, more)

cut_tight : (mark : ℕ) (bytes : List ℕ) → length (before mark bytes) < length bytes → length (before mark bytes) + 1 + length (behind mark bytes) ≤ length bytes
unfolding before behind
cut_tight mark [] low = absurd (omega (arith, low))
cut_tight mark (byte ∷ bytes) low = tight_by mark byte bytes (byte == mark) (cut_tight mark bytes) low

-- where the words behind the first one begin, which is no further than the line's end
next_by : (column first size : ℕ) (rest : List ℕ) → first + length rest ≤ size → (first < size → first + 1 + length rest ≤ size)
    → (placed_words (column + first + 1) rest ≡ placed_words (column + min (first + 1) size) rest) × (min (first + 1) size + length rest ≤ size)
next_by column first size [] short tight = (placed_none (column + first + 1) [] (omega arith) ∙ sym (placed_none (column + min (first + 1) size) [] (omega arith)), omega (arith, short))
next_by column first size (byte ∷ rest) short tight =
    let low : first < size = omega (arith, short) in
    let more = tight low in
    let same : column + first + 1 ≡ column + min (first + 1) size = omega (arith, low) in
    (ap (λ c. placed_words c (byte ∷ rest)) same, omega (arith, more))

pub placed_next : (column : ℕ) (line : List ℕ) → (placed_words (column + length (before 32 line) + 1) (behind 32 line) ≡ placed_words (column + min (length (before 32 line) + 1) (length line)) (behind 32 line))
    × (min (length (before 32 line) + 1) (length line) + length (behind 32 line) ≤ length line)
placed_next column line = next_by column (length (before 32 line)) (length line) (behind 32 line) (cut_short 32 line) (cut_tight 32 line)

-- the items one after another
pub place_here : (spots : Spots) (kind : ℕ) (opcode : Opcode) (all rows : List Row) (words more : List Word) (item : Word) (found : List Mistake) → words ≡ item ∷ more
    → found ≡ item_mistakes spots 0 all rows item.text → is_of kind found ≡ true
    → item_place spots kind opcode all rows words ≡ Some (record { column = item.column; wanted = wanted_item opcode all rows item.text })
unfolding item_place
place_here spots kind opcode all rows words more item found is report here = rw (is, sym report, here) refl

pub place_later : (spots : Spots) (kind : ℕ) (opcode : Opcode) (all rows : List Row) (words more : List Word) (item : Word) (found : List Mistake) → words ≡ item ∷ more
    → found ≡ item_mistakes spots 0 all rows item.text → is_of kind found ≡ false
    → item_place spots kind opcode all (rows_after item.text rows) more ≡ item_place spots kind opcode all rows words
unfolding item_place
place_later spots kind opcode all rows words more item found is report other = rw (is, sym report, other) refl

pub place_none : (spots : Spots) (kind : ℕ) (opcode : Opcode) (all rows : List Row) (words : List Word) → words ≡ [] → item_place spots kind opcode all rows words ≡ None
unfolding item_place
place_none spots kind opcode all rows words is = rw is refl

-- the first word of a line, and where the words behind it begin
pub first_words : (column taken : ℕ) (line first rest : List ℕ) → 0 < length line → slice_index line 0 ≢ 32 → first ≡ before 32 line → rest ≡ behind 32 line
    → taken ≡ min (length first + 1) (length line)
    → placed_words column line ≡ record { column = column; text = first } ∷ placed_words (column + taken) rest
first_words column taken line first rest some word first-is rest-is taken-is =
    placed_first column line first rest some word first-is rest-is
    ∙ ap (λ words. record { column = column; text = first } ∷ words) (rw (taken-is, first-is, rest-is) (placed_next column line).0)

pub first_inside : (taken : ℕ) (line first rest : List ℕ) → first ≡ before 32 line → rest ≡ behind 32 line → taken ≡ min (length first + 1) (length line)
    → taken + length rest ≤ length line
first_inside taken line first rest first-is rest-is taken-is = rw (taken-is, first-is, rest-is) (placed_next 0 line).1

-- an instruction's line
pub coded_place : (spots : Spots) (kind : ℕ) (line : Line) (words more : List Word) (first : Word) (opcode : List ℕ) (items : List (List ℕ)) → words ≡ first ∷ more
    → line ≡ Coded opcode items → words_place spots kind line words ≡ code_place spots kind first.column opcode more (kind_named opcode)
coded_place spots kind line words more first opcode items is coded = rw (is, coded) refl
