-- Rows of a memory and their texts.
use Rattle.std.proofs.Common.{◌≡◌, ℕ, zero, suc, ◌+◌, ◌-◌, ◌*◌, ◌^◌, ◌<◌, ◌≤◌, List, [], ◌++◌, length, take, drop, replicate, false, refl, sym, ap, ◌∙◌, arith, append-nil, append_assoc, zero-add, add-zero}
use Rattle.std.proofs.{lemmas.List.length-take-le, lemmas.List.take_at, lemmas.List.drop_at, Math.Seq.take-add, Math.Nat.suc-add}
use Rattle.std.specs.{Prelude.codes, Fmt.digits, Fmt.padded_integral, Fmt.format_spec, Fmt.char_count, Int.to_be_bytes, Int.w32}
use Rattle.field_words.specs.Writes.{with_bytes}
use Rattle.hex.specs.Hex.{encode_lower, encode_with, lower_digits}
use Rattle.hex.proofs.HexLemmas.{length-encode_with}
use Rattle.dumper.proofs.Digits.{place_is}
use Rattle.dumper.specs.Text.{place_text, row_line, row_text, rows_text}

-- what `{:08x}` writes
pub place_shown : (place : ℕ) → padded_integral (format_spec 32 0 4 8 (2 ^ 64 - 1)) false [] (digits 16 false place) ≡ place_text place
unfolding padded_integral place_text char_count
place_shown place =
    let shown = digits 16 false place in
    let none : 8 - length shown - 0 - 0 ≡ 8 - length shown = omega arith in
    ap (λ n. replicate n 48 ++ (shown ++ [])) none ∙ ap (λ l. replicate (8 - length shown) 48 ++ l) (append-nil shown)

-- so many rows, and so many behind them
pub rows_on : (memory : List ℕ) (place : ℕ) (a b : ℕ) → rows_text memory place (a + b) ≡ rows_text memory place a ++ rows_text memory (place + 16 * a) b
unfolding rows_text
rows_on memory place zero b = ap (λ n. rows_text memory place n) (zero-add b) ∙ ap (λ at. rows_text memory at b) (sym (add-zero place))
rows_on memory place (suc a) b =
    ap (rows_text memory place) (suc-add a b)
    ∙ ap (λ text. row_text memory place ++ text) (rows_on memory (place + 16) a b)
    ∙ sym (append_assoc (row_text memory place) (rows_text memory (place + 16) a) (rows_text memory (place + 16 + 16 * a) b))
    ∙ ap (λ at. row_text memory place ++ rows_text memory (place + 16) a ++ rows_text memory at b) (omega arith)

-- one row is its line
pub row_alone : (memory : List ℕ) (place : ℕ) → rows_text memory place 1 ≡ row_text memory place
unfolding rows_text
row_alone memory place = append-nil (row_text memory place)

pub no_rows : (memory : List ℕ) (place : ℕ) → rows_text memory place 0 ≡ []
unfolding rows_text
no_rows memory place = refl

-- the front of a piece with a line put behind it
pub put_front : (piece line : List ℕ) (at n : ℕ) → length line ≡ n → at + n ≤ length piece → take (at + n) (with_bytes piece at line) ≡ take at piece ++ line
put_front piece line at n size fits =
    let front : length (take at piece) ≡ at = length-take-le at piece (omega arith) in
    take-add at n (with_bytes piece at line)
    ∙ ap (λ l. l ++ take n (drop at (with_bytes piece at line))) (take_at (take at piece) (line ++ drop (at + length line) piece) at front)
    ∙ ap (λ l. take at piece ++ take n l) (drop_at (take at piece) (line ++ drop (at + length line) piece) at front)
    ∙ ap (λ l. take at piece ++ l) (take_at line (drop (at + length line) piece) n size)

-- a line in which the digits are still to be written
abbrev pub empty_line : List ℕ
empty_line = codes "........ ................................\n"

-- The place's digits and the row's make it the row's line.
pub line_is : (place : ℕ) (row : List ℕ) → place < 2 ^ 32 → length row ≡ 16
    → with_bytes (with_bytes empty_line 0 (encode_lower (to_be_bytes w32 place))) 9 (encode_lower row) ≡ row_line place row
unfolding row_line encode_with
line_is place row small sixteen =
    let line = with_bytes empty_line 0 (encode_lower (to_be_bytes w32 place)) in
    let shown = encode_lower row in
    let twice : length shown ≡ 32 = omega (arith, length-encode_with lower_digits row, sixteen) in
    ap (λ n. take 9 line ++ (shown ++ drop (9 + n) line)) twice
    ∙ ap (λ text. text ++ (codes " " ++ (shown ++ codes "\n"))) (place_is place small)

-- the first rows, and those behind them up to a row
pub rows_upto : (memory : List ℕ) (place row next : ℕ) → row ≤ next → rows_text memory place row ++ rows_text memory (place + 16 * row) (next - row) ≡ rows_text memory place next
rows_upto memory place row next order =
    let on : row + (next - row) ≡ next = omega (arith, order) in
    sym (rows_on memory place row (next - row)) ∙ ap (rows_text memory place) on
