-- The words of a line, with their columns and without.
use Rattle.std.proofs.Common.{◌≡◌, ◌≢◌, ℕ, ◌+◌, ◌≤◌, ◌<◌, Bool, true, false, ◌==◌, List, [], ◌∷◌, length, map, get_or, slice_index, drop, refl, sym, ◌∙◌, ap, arith, ne_eqb, filter, cond, drop-cons, add-one, if◌then◌else◌}
use Rattle.std.specs.List.{slice_split, onto_first}
use Rattle.script.specs.Lines.{before, behind}
use Rattle.qpu_asm.specs.Lines.{is_full, words_of}
use Rattle.qpu_asm.specs.Place.{Word, word_at, words_from, placed_words}

-- a space before the words
placed_space : (column : ℕ) (bytes : List ℕ) → placed_words column (32 ∷ bytes) ≡ placed_words (column + 1) bytes
unfolding placed_words words_from is_full
placed_space column bytes = refl

pub placed_skip : (column : ℕ) (line : List ℕ) (i : ℕ) → i < length line → get_or line i 0 ≡ 32
    → placed_words (column + (i + 1)) (drop (i + 1) line) ≡ placed_words (column + i) (drop i line)
placed_skip column line i inside here =
    let e : drop i line ≡ get_or line i 0 ∷ drop (i + 1) line = rw add-one (drop-cons line i 0 inside) in
    let n : column + (i + 1) ≡ (column + i) + 1 = omega arith in
    ap (λ c. placed_words c (drop (i + 1) line)) n
    ∙ sym (ap (placed_words (column + i)) (e ∙ ap (λ byte. byte ∷ drop (i + 1) line) here) ∙ placed_space (column + i) (drop (i + 1) line))

-- parts between spaces: the first one, and others that leave the words behind it
abbrev IsParted : List (List ℕ) → List ℕ → List ℕ → Type 0
IsParted parts first rest = (others : List (List ℕ)) × (parts ≡ first ∷ others) × ((column : ℕ) → words_from column others ≡ placed_words column rest)

parted_more : (byte : ℕ) (bytes : List ℕ) (space : Bool) → IsParted (slice_split (λ b. b == 32) bytes) (before 32 bytes) (behind 32 bytes)
    → IsParted (cond space ([] ∷ slice_split (λ b. b == 32) bytes) (onto_first byte (slice_split (λ b. b == 32) bytes)))
    (if space then [] else byte ∷ before 32 bytes) (if space then bytes else behind 32 bytes)
unfolding placed_words
parted_more byte bytes true parted = (slice_split (λ b. b == 32) bytes, refl, λ column. refl)
parted_more byte bytes false (others, is, same) = (others, ap (onto_first byte) is, same)

parted : (bytes : List ℕ) → IsParted (slice_split (λ b. b == 32) bytes) (before 32 bytes) (behind 32 bytes)
unfolding before behind placed_words words_from is_full
parted [] = ([], refl, λ column. refl)
parted (byte ∷ bytes) = parted_more byte bytes (byte == 32) (parted bytes)

first_full : (line : List ℕ) → 0 < length line → slice_index line 0 ≢ 32 → is_full (before 32 line) ≡ true
unfolding before is_full
first_full [] some apart = absurd (omega arith)
first_full (byte ∷ bytes) some apart = rw (ne_eqb byte 32 apart) refl

first_kept : (column : ℕ) (part : List ℕ) (parts : List (List ℕ)) → is_full part ≡ true
    → words_from column (part ∷ parts) ≡ record { column = column; text = part } ∷ words_from (column + length part + 1) parts
unfolding words_from
first_kept column part parts full = rw full refl

-- the first word, and the words after it
pub placed_first : (column : ℕ) (line first rest : List ℕ) → 0 < length line → slice_index line 0 ≢ 32 → first ≡ before 32 line → rest ≡ behind 32 line
    → placed_words column line ≡ record { column = column; text = first } ∷ placed_words (column + length first + 1) rest
unfolding placed_words
placed_first column line first rest some apart first-is rest-is =
    let parts = parted line in
    rw (first-is, rest-is) (ap (words_from column) parts.1 ∙ (first_kept column (before 32 line) parts.0 (first_full line some apart)
    ∙ ap (λ words. record { column = column; text = before 32 line } ∷ words) (parts.2 (column + length (before 32 line) + 1))))

pub placed_none : (column : ℕ) (line : List ℕ) → length line ≤ 0 → placed_words column line ≡ []
unfolding placed_words words_from is_full
placed_none column [] none = refl
placed_none column (byte ∷ bytes) none = absurd (omega arith)

-- the words without their columns
abbrev text_of : Word → List ℕ
text_of word = word.text

pub kept_full : (word : List ℕ) (words : List (List ℕ)) → is_full word ≡ true → filter is_full (word ∷ words) ≡ word ∷ filter is_full words
kept_full word words full = rw full refl

full_by : (column : ℕ) (part : List ℕ) (parts : List (List ℕ)) (full : Bool) → ((next : ℕ) → map text_of (words_from next parts) ≡ filter is_full parts)
    → map text_of (if full then word_at column part ∷ words_from (column + length part + 1) parts else words_from (column + 1) parts)
    ≡ cond full (part ∷ filter is_full parts) (filter is_full parts)
full_by column part parts true same = ap (λ words. part ∷ words) (same (column + length part + 1))
full_by column part parts false same = same (column + 1)

parts_full : (column : ℕ) (parts : List (List ℕ)) → map text_of (words_from column parts) ≡ filter is_full parts
unfolding words_from
parts_full column [] = refl
parts_full column (part ∷ parts) = full_by column part parts (is_full part) (λ next. parts_full next parts)

pub words_placed : (column : ℕ) (line : List ℕ) → map text_of (placed_words column line) ≡ words_of line
unfolding placed_words words_of
words_placed column line = parts_full column (slice_split (λ byte. byte == 32) line)

-- the first word, and the words after it, behind the spaces that a line begins with
pub word_first : (line start first rest : List ℕ) (column : ℕ) → placed_words column start ≡ placed_words 0 line → 0 < length start → slice_index start 0 ≢ 32
    → first ≡ before 32 start → rest ≡ behind 32 start → words_of line ≡ first ∷ words_of rest
word_first line start first rest column same some apart first-is rest-is =
    sym (words_placed 0 line) ∙ (ap (map text_of) (sym same ∙ placed_first column start first rest some apart first-is rest-is)
    ∙ ap (λ words. first ∷ words) (words_placed (column + length first + 1) rest))

pub words_empty : (line start : List ℕ) (column : ℕ) → placed_words column start ≡ placed_words 0 line → length start ≤ 0 → words_of line ≡ []
words_empty line start column same none = sym (words_placed 0 line) ∙ ap (map text_of) (sym same ∙ placed_none column start none)
