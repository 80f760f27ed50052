-- The rows of a part alone in a memory are rows of its bytes.
use Rattle.std.proofs.Common.{◌≡◌, ℕ, ◌+◌, ◌-◌, ◌*◌, ◌<◌, ◌≤◌, List, [], ◌++◌, length, min, take, drop, sym, ap, arith}
use Rattle.std.proofs.{lemmas.List.places, lemmas.Grind.same_number_lists}
use Rattle.std.specs.Prelude.{if◌then◌else◌}
use Rattle.field_words.specs.Writes.{with_bytes, zeros}
use Rattle.dumper.specs.Text.{row_at, row_text, row_line, is_blank}
use Rattle.dumper.specs.Parts.{part_at, part_rows, part_end, alone, row_in}

in_zeros : (n size place from : ℕ) (bytes : List ℕ) → place + length bytes ≤ size → place + from + n ≤ size → from ≤ length bytes
    → take n (drop (place + from) (with_bytes (zeros size) place bytes)) ≡ take n (drop from bytes ++ zeros n)
unfolding zeros
in_zeros n size place from bytes fits inside some = same_number_lists _ _ (grind (arith, places)) (λ k below. grind (arith, places))

pub row_alone_is : (place row : ℕ) (bytes : List ℕ) → row < part_rows (part_at place bytes)
    → row_at (alone (part_at place bytes)) (place + 16 * row) ≡ row_in bytes (16 * row)
unfolding alone
row_alone_is place row bytes inside = in_zeros 16 (part_end (part_at place bytes)) place (16 * row) bytes (omega arith) (omega (arith, inside)) (omega (arith, inside))

-- so many bytes as there are, of n at most, and zeros behind them
pub filled_is : (n from len : ℕ) (bytes : List ℕ) → from ≤ length bytes → len ≡ min (length bytes - from) n
    → take len (drop from bytes) ++ drop len (zeros n) ≡ take n (drop from bytes ++ zeros n)
unfolding zeros
filled_is n from len bytes some is = same_number_lists _ _ (grind (arith, places, is)) (λ k below. grind (arith, places, is))

-- its line is that of the row alone in the memory
pub row_text_alone : (place row : ℕ) (bytes : List ℕ) → row < part_rows (part_at place bytes)
    → (if is_blank (row_in bytes (16 * row)) then [] else row_line (place + 16 * row) (row_in bytes (16 * row))) ≡ row_text (alone (part_at place bytes)) (place + 16 * row)
unfolding row_text
row_text_alone place row bytes inside =
    ap (λ r. if is_blank r then [] else row_line (place + 16 * row) r) (sym (row_alone_is place row bytes inside))
