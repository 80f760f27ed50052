-- Rows of two memories that are the same there, rows of zeros, and the rows of a memory that is zero but for ascending parts.
use Rattle.std.proofs.Common.{◌≡◌, ℕ, zero, suc, ◌+◌, ◌-◌, ◌*◌, ◌/◌, ◌%◌, ◌<◌, ◌≤◌, List, [], ◌∷◌, ◌++◌, length, take, drop, get_or, true, inl, inr, ◌&&◌, refl, sym, ap, subst, ◌∙◌, arith}
use Rattle.std.proofs.{lemmas.List.places, lemmas.List.get_or_past, lemmas.Bool.cases_lt, lemmas.Grind.same_number_lists}
use Rattle.std.specs.{Prelude.◌==◌, Prelude.if◌then◌else◌, List.list_all}
use Rattle.field_words.specs.Writes.{Part, parts_placed, with_bytes, zeros}
use Rattle.field_words.proofs.Writes.{length-with_bytes, with_bytes-before, with_bytes-behind, with_bytes-inside, length_zeros}
use Rattle.dumper.specs.Text.{row_at, row_text, row_line, rows_text, is_blank}
use Rattle.dumper.specs.Parts.{part_rows, part_end, alone, part_text, parts_text, Ascend}
use Rattle.dumper.proofs.Rows.{rows_on}

-- two lists have the same bytes from a place on
front_same : (n : ℕ) (a b : List ℕ) (place : ℕ) → place + n ≤ length a → place + n ≤ length b
    → ((k : ℕ) → place ≤ k → k < place + n → get_or a k 0 ≡ get_or b k 0) → take n (drop place a) ≡ take n (drop place b)
front_same n a b place fits fits2 same = same_number_lists _ _ (grind (arith, places)) (λ k below. let h = same (place + k) (omega arith) in grind (arith, places, h))

pub rows_same : (a b : List ℕ) (place n : ℕ) → place + 16 * n ≤ length a → place + 16 * n ≤ length b
    → ((k : ℕ) → place ≤ k → k < place + 16 * n → get_or a k 0 ≡ get_or b k 0) → rows_text a place n ≡ rows_text b place n
unfolding rows_text row_text
rows_same a b place zero fits fits2 same = refl
rows_same a b place (suc n) fits fits2 same =
    let row : row_at a place ≡ row_at b place = front_same 16 a b place (omega (arith, fits)) (omega (arith, fits2)) (λ k at below. same k at (omega (arith, below))) in
    let rest = rows_same a b (place + 16) n (omega (arith, fits)) (omega (arith, fits2)) (λ k at below. same k (omega (arith, at)) (omega (arith, below))) in
    ap (λ r. (if is_blank r then [] else row_line place r) ++ rows_text a (place + 16) n) row
    ∙ ap (λ t. (if is_blank (row_at b place) then [] else row_line place (row_at b place)) ++ t) rest

all_zero : (row : List ℕ) → ((k : ℕ) → get_or row k 0 ≡ 0) → list_all (λ byte. byte == 0) row ≡ true
all_zero [] zeros = refl
all_zero (x ∷ row) zeros = ap (λ v. (v == 0) && list_all (λ byte. byte == 0) row) (zeros 0) ∙ all_zero row (λ k. zeros (suc k))

cell_zero : (n : ℕ) (m : List ℕ) (place k : ℕ) → place + n ≤ length m → ((j : ℕ) → place ≤ j → j < place + n → get_or m j 0 ≡ 0) → get_or (take n (drop place m)) k 0 ≡ 0
cell_zero n m place k fits zero_there = elim (cases_lt k n) [
  | inl below ↦ let h = zero_there (place + k) (omega arith) (omega (arith, below)) in grind (arith, places, h)
  | inr past ↦ get_or_past (take n (drop place m)) k 0 (grind (arith, places))
]

pub rows_blank : (m : List ℕ) (place n : ℕ) → place + 16 * n ≤ length m
    → ((k : ℕ) → place ≤ k → k < place + 16 * n → get_or m k 0 ≡ 0) → rows_text m place n ≡ []
unfolding rows_text row_text is_blank
rows_blank m place zero fits zero_there = refl
rows_blank m place (suc n) fits zero_there =
    let blank : is_blank (row_at m place) ≡ true =
    all_zero (row_at m place) (λ k. cell_zero 16 m place k (omega (arith, fits)) (λ j at below. zero_there j at (omega (arith, below)))) in
    let rest = rows_blank m (place + 16) n (omega (arith, fits)) (λ k at below. zero_there k (omega (arith, at)) (omega (arith, below))) in
    ap (λ t. (if t then [] else row_line place (row_at m place)) ++ rows_text m (place + 16) n) blank ∙ rest

-- Ascending parts end inside the size.
pub ascend_upto : (from size : ℕ) (parts : List Part) → Ascend from size parts → from ≤ size
ascend_upto from size [] upto = upto
ascend_upto from size (part ∷ parts) ascend =
    let rest = ascend_upto (part_end part) size parts ascend.2 in
    omega (arith, ascend.0, rest)

pub part_fits : (from size : ℕ) (part : Part) (parts : List Part) → Ascend from size (part ∷ parts) → part.place + length part.bytes ≤ size
part_fits from size part parts ascend =
    let rest = ascend_upto (part_end part) size parts ascend.2 in
    omega (arith, rest)

pub length_placed : (m : List ℕ) (from size : ℕ) (parts : List Part) → length m ≡ size → Ascend from size parts → length (parts_placed m parts) ≡ size
length_placed m from size [] long ascend = long
length_placed m from size (part ∷ parts) long ascend =
    let fits = part_fits from size part parts ascend in
    length_placed (with_bytes m part.place part.bytes) (part_end part) size parts (length-with_bytes m part.place part.bytes (omega (arith, fits, long)) ∙ long) ascend.2

-- They leave alone what lies before them.
pub placed_below : (m : List ℕ) (from size k : ℕ) (parts : List Part) → length m ≡ size → Ascend from size parts → k < from → get_or (parts_placed m parts) k 0 ≡ get_or m k 0
placed_below m from size k [] long ascend below = refl
placed_below m from size k (part ∷ parts) long ascend below =
    let fits : part.place + length part.bytes ≤ length m = let h = part_fits from size part parts ascend in omega (arith, h, long) in
    let before : k < part.place = omega (arith, below, ascend.0) in
    placed_below (with_bytes m part.place part.bytes) (part_end part) size k parts (length-with_bytes m part.place part.bytes fits ∙ long) ascend.2 (omega (arith, before))
    ∙ with_bytes-before m part.place part.bytes k fits before

-- A byte that is the same before a write is the same behind it.
write_same : (a b : List ℕ) (at : ℕ) (bytes : List ℕ) (k : ℕ) → at + length bytes ≤ length a → at + length bytes ≤ length b
    → get_or a k 0 ≡ get_or b k 0 → get_or (with_bytes a at bytes) k 0 ≡ get_or (with_bytes b at bytes) k 0
write_same a b at bytes k fits fits2 same = elim (cases_lt k at) [
  | inl before ↦ with_bytes-before a at bytes k fits before ∙ same ∙ sym (with_bytes-before b at bytes k fits2 before)
  | inr from ↦ elim (cases_lt k (at + length bytes)) [
    | inl inside ↦ let i : at + (k - at) ≡ k = omega (arith, from) in
        let less : k - at < length bytes = omega (arith, inside, from) in
        subst (λ j. get_or (with_bytes a at bytes) j 0 ≡ get_or (with_bytes b at bytes) j 0) i
        (with_bytes-inside a at bytes (k - at) fits less ∙ sym (with_bytes-inside b at bytes (k - at) fits2 less))
    | inr behind ↦ with_bytes-behind a at bytes k fits behind ∙ same ∙ sym (with_bytes-behind b at bytes k fits2 behind)
  ]
]

pub zero_at : (n k : ℕ) → get_or (zeros n) k 0 ≡ 0
unfolding zeros
zero_at n k = elim (cases_lt k n) [
  | inl below ↦ grind (arith, places)
  | inr past ↦ get_or_past (zeros n) k 0 (let h = length_zeros n in omega (arith, h, past))
]

pub length_alone : (part : Part) → length (alone part) ≡ part_end part
unfolding alone
length_alone part =
    let blank = length_zeros (part_end part) in
    length-with_bytes (zeros (part_end part)) part.place part.bytes (omega (arith, blank)) ∙ blank

-- Where a memory is zero from a place on, but for ascending parts, its rows from there on are the parts'.
alone_same : (m : List ℕ) (from size k : ℕ) (part : Part) (parts : List Part) → length m ≡ size → Ascend from size (part ∷ parts)
    → ((k : ℕ) → from ≤ k → get_or m k 0 ≡ 0) → part.place ≤ k → k < part_end part
    → get_or (parts_placed (with_bytes m part.place part.bytes) parts) k 0 ≡ get_or (alone part) k 0
unfolding alone
alone_same m from size k part parts long ascend blank at below =
    let h = part_fits from size part parts ascend in
    let fits : part.place + length part.bytes ≤ length m = omega (arith, h, long) in
    let size_is = length_zeros (part_end part) in
    let there : from ≤ k = omega (arith, ascend.0, at) in
    placed_below (with_bytes m part.place part.bytes) (part_end part) size k parts (length-with_bytes m part.place part.bytes fits ∙ long) ascend.2 below
    ∙ write_same m (zeros (part_end part)) part.place part.bytes k fits (omega (arith, size_is)) (blank k there ∙ sym (zero_at (part_end part) k))

gap_zero : (m : List ℕ) (from size k : ℕ) (part : Part) (parts : List Part) → length m ≡ size → Ascend from size (part ∷ parts)
    → ((k : ℕ) → from ≤ k → get_or m k 0 ≡ 0) → from ≤ k → k < part.place
    → get_or (parts_placed (with_bytes m part.place part.bytes) parts) k 0 ≡ 0
gap_zero m from size k part parts long ascend blank at below =
    let h = part_fits from size part parts ascend in
    let fits : part.place + length part.bytes ≤ length m = omega (arith, h, long) in
    placed_below (with_bytes m part.place part.bytes) (part_end part) size k parts (length-with_bytes m part.place part.bytes fits ∙ long) ascend.2 (omega (arith, below))
    ∙ with_bytes-before m part.place part.bytes k fits below ∙ blank k at

rest_zero : (m : List ℕ) (from : ℕ) (part : Part) (k : ℕ) → part.place + length part.bytes ≤ length m → from ≤ part.place
    → ((k : ℕ) → from ≤ k → get_or m k 0 ≡ 0) → part_end part ≤ k → get_or (with_bytes m part.place part.bytes) k 0 ≡ 0
rest_zero m from part k fits order blank behind =
    with_bytes-behind m part.place part.bytes k fits (omega (arith, behind)) ∙ blank k (omega (arith, order, behind))

three_rows : (m : List ℕ) (from at end n a b c : ℕ) → n ≡ a + (b + c) → from + 16 * a ≡ at → at + 16 * b ≡ end
    → rows_text m from n ≡ rows_text m from a ++ (rows_text m at b ++ rows_text m end c)
three_rows m from at end n a b c sum first second =
    ap (rows_text m from) sum ∙ rows_on m from a (b + c)
    ∙ ap (λ p. rows_text m from a ++ rows_text m p (b + c)) first
    ∙ ap (λ t. rows_text m from a ++ t) (rows_on m at b c ∙ ap (λ p. rows_text m at b ++ rows_text m p c) second)

pub rows_of_parts : (m : List ℕ) (from size n : ℕ) (parts : List Part) → length m ≡ size → from % 16 ≡ 0 → from + 16 * n ≡ size
    → ((k : ℕ) → from ≤ k → get_or m k 0 ≡ 0) → Ascend from size parts → rows_text (parts_placed m parts) from n ≡ parts_text parts
unfolding parts_text part_text
rows_of_parts m from size n [] long row whole blank ascend = rows_blank m from n (omega (arith, long, whole)) (λ k at below. blank k at)
rows_of_parts m from size n (part ∷ parts) long row whole blank ascend =
    let end = part_end part in
    let upto = ascend_upto end size parts ascend.2 in
    let fits : part.place + length part.bytes ≤ length m = omega (arith, upto, long) in
    let after = with_bytes m part.place part.bytes in
    let all = parts_placed after parts in
    let size_is : length after ≡ size = length-with_bytes m part.place part.bytes fits ∙ long in
    let all_long : length all ≡ size = length_placed after end size parts size_is ascend.2 in
    let a = (part.place - from) / 16 in
    let b = part_rows part in
    let c = (size - end) / 16 in
    let first : from + 16 * a ≡ part.place = omega (arith, row, ascend.0, ascend.1) in
    let last : end + 16 * c ≡ size = omega (arith, row, whole, ascend.1, upto) in
    let sum : n ≡ a + (b + c) = omega (arith, first, last, whole) in
    let gap : rows_text all from a ≡ [] = rows_blank all from a (omega (arith, all_long, first, upto)) (λ k at below. gap_zero m from size k part parts long ascend blank at (omega (arith, below, first))) in
    let own : rows_text all part.place b ≡ rows_text (alone part) part.place b =
    rows_same all (alone part) part.place b (omega (arith, all_long, upto)) (let h = length_alone part in omega (arith, h)) (λ k at below. alone_same m from size k part parts long ascend blank at below) in
    let rest : rows_text all end c ≡ parts_text parts =
    rows_of_parts after end size c parts size_is (omega (arith, ascend.1)) last (λ k behind. rest_zero m from part k fits ascend.0 blank behind) ascend.2 in
    three_rows all from part.place end n a b c sum first refl
    ∙ ap (λ t. t ++ (rows_text all part.place b ++ rows_text all end c)) gap
    ∙ ap (λ t. t ++ rows_text all end c) own
    ∙ ap (λ t. rows_text (alone part) part.place b ++ t) rest
