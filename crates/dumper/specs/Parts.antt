-- The rows of a memory that is zero but for parts that lie apart are the rows of its parts, by ascending place.
use Rattle.std.specs.Prelude.{◌≡◌, ℕ, ◌+◌, ◌*◌, ◌/◌, ◌%◌, ◌≤◌, ◌<◌, ◌⊎◌, nat_lt, List, [], ◌∷◌, ◌++◌, length, take, drop, if◌then◌else◌, insert}
use Rattle.field_words.specs.Writes.{Part, with_bytes, zeros}
use Rattle.dumper.specs.Text.{rows_text}

abbrev pub part_at : ℕ → List ℕ → Part
part_at place bytes = record { place = place; bytes = bytes }

-- how many rows of sixteen bytes a part takes, and where the last one ends
abbrev pub part_rows : Part → ℕ
part_rows part = (length part.bytes + 15) / 16

abbrev pub part_end : Part → ℕ
part_end part = part.place + 16 * part_rows part

-- the memory up to there with that part alone, and the lines of the part's rows
unfoldable pub alone : Part → List ℕ
alone part = with_bytes (zeros (part_end part)) part.place part.bytes

-- the sixteen bytes from an offset of a part's bytes on, where zeros stand behind the last
abbrev pub row_in : List ℕ → ℕ → List ℕ
row_in bytes from = take 16 (drop from bytes ++ zeros 16)

unfoldable pub part_text : Part → List ℕ
part_text part = rows_text (alone part) part.place (part_rows part)

unfoldable pub parts_text : List Part → List ℕ
parts_text [] = []
parts_text (part ∷ parts) = part_text part ++ parts_text parts

-- The parts begin and end at rows, from a place up to a size, each behind the one before it.
abbrev pub Ascend : (from size : ℕ) → List Part → Type 0
Ascend from size [] = from ≤ size
Ascend from size (part ∷ parts) = (from ≤ part.place) × (part.place % 16 ≡ 0) × Ascend (part_end part) size parts

-- a part put before the first that begins behind it, and parts in that order
unfoldable pub part_inserted : Part → List Part → List Part
part_inserted part [] = part ∷ []
part_inserted part (next ∷ parts) = if nat_lt part.place next.place then part ∷ (next ∷ parts) else next ∷ part_inserted part parts

-- a part that begins at this place goes there among the parts
abbrev pub GoesAt : ℕ → List Part → ℕ → Type 0
GoesAt place parts at = (bytes : List ℕ) → part_inserted (part_at place bytes) parts ≡ insert parts at (part_at place bytes)

unfoldable pub parts_sorted : List Part → List Part
parts_sorted [] = []
parts_sorted (part ∷ parts) = part_inserted part (parts_sorted parts)

-- One ends before the other begins.
abbrev pub RowsApart : Part → Part → Type 0
RowsApart p q = ((p.place < q.place) × (part_end p ≤ q.place)) ⊎ ((q.place < p.place) × (part_end q ≤ p.place))

abbrev pub ApartFrom : Part → List Part → Type 0
ApartFrom p [] = Unit {0}
ApartFrom p (q ∷ parts) = RowsApart p q × ApartFrom p parts

-- The parts begin at rows, end inside the size, and lie apart.
abbrev pub AllApart : ℕ → List Part → Type 0
AllApart size [] = Unit {0}
AllApart size (part ∷ parts) = (part.place % 16 ≡ 0) × (part_end part ≤ size) × ApartFrom part parts × AllApart size parts
