-- The table of a run: how many reads and writes each kind of unit makes to each kind of region.
use Rattle.std.specs.Prelude.{◌≡◌, ℕ, ◌+◌, ◌*◌, ◌==◌, List, length, slice_index_or, codes, if◌then◌else◌, decimal}
use Rattle.pictures.specs.declared.table.Counts.{Counts}
use Rattle.pictures.specs.{Forest.Forest, Forest.Beside, Parts.block, Parts.label, Parts.each}

-- there are so many cells
abbrev pub HasCells : Counts → Type 0
HasCells counts = (length counts.reads.items ≡ 20) × (length counts.writes.items ≡ 20)

-- a kind of region, above its columns
unfoldable pub column_head : (column : ℕ) → (class name : List ℕ) → Forest
column_head column class name =
    Beside (block (256 + 180 * column) 563 class) (Beside (label (280 + 180 * column) 574 (codes "note") name)
    (Beside (label (320 + 180 * column) 592 (codes "end") (codes "reads")) (label (400 + 180 * column) 592 (codes "end") (codes "writes"))))

unfoldable pub column_heads : Forest
column_heads =
    Beside (column_head 0 (codes "slots") (codes "tile slots")) (Beside (column_head 1 (codes "lists") (codes "lists"))
    (Beside (column_head 2 (codes "data0") (codes "data")) (column_head 3 (codes "code0") (codes "code"))))

-- the row's name
unfoldable pub row_name : ℕ → List ℕ
row_name row =
    if row == 0 then codes "binner" else (if row == 1 then codes "renderer" else (if row == 2 then codes "processors" else codes "texture units"))

-- a cell: its reads and its writes
unfoldable pub cell_part : (reads writes : List ℕ) → (row column : ℕ) → Forest
cell_part reads writes row column =
    Beside (label (320 + 180 * column) (612 + 18 * row) (codes "end") (decimal (slice_index_or reads (5 * row + column) 0)))
    (label (400 + 180 * column) (612 + 18 * row) (codes "end") (decimal (slice_index_or writes (5 * row + column) 0)))

unfoldable pub unit_part : (reads writes : List ℕ) → ℕ → Forest
unit_part reads writes row = Beside (label 96 (612 + 18 * row) (codes "note") (row_name row)) (each (cell_part reads writes row) 4)

unfoldable pub unit_table : (reads writes : List ℕ) → Forest
unit_table reads writes = Beside column_heads (each (unit_part reads writes) 4)
