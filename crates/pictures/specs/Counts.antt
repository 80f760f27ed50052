-- How many of a run's accesses each box of the picture takes, and how many each kind of unit makes to each kind of region.
use Rattle.std.specs.Prelude.{◌≡◌, ◌<◌, ◌^◌, ℕ, ◌+◌, ◌*◌, ◌==◌, ◌&&◌, Bool, true, false, if◌then◌else◌, List, length, slice_index_or, map}
use Rattle.std.specs.List.{count_by, range_with_len}
use Rattle.buffer_table.specs.{declared.buffer.Buffer.Buffer, declared.buffer.Kind.Kind, Table.buffer_at}
use Rattle.buffer_table.specs.declared.buffer.Kind.TheVariants.{Plain, Code}
use Rattle.field_words.specs.declared.access.Actor.TheVariants.{Binner, Renderer, Qpu, Tmu}
use Rattle.field_words.specs.declared.access.Way.TheVariants.{Read, Write, Wild}
use Rattle.field_words.specs.{declared.access.Access.Access, declared.access.Actor.Actor, declared.access.Way.Way}
use Rattle.job_format.specs.{declared.parts.FileParts.FileParts, Model.FileModel, Parts.parts_view}
use Rattle.relocation.specs.declared.layout.Layout.{Layout}
use Rattle.replay.specs.declared.logged.Logged.{Logged}
use Rattle.pictures.specs.Grid.{overlaps}
use Rattle.run_text.specs.{declared.spot.Spot.TheVariants.Slot, declared.spot.Spot.TheVariants.InBuffer, declared.spot.Spot.TheVariants.Nowhere, declared.spot.Spot.Spot as TheSpot, Spot.spot_of}

-- each of these numbers can be one more
abbrev pub HasRoom : List ℕ → Type 0
HasRoom counts = (k : ℕ) → slice_index_or counts k 0 < 2 ^ 63

-- the numbers of the boxes that are hit are one more, and all others as before
abbrev pub IsOneMoreWhere : (hit : ℕ → Bool) → (old new : List ℕ) → Type 0
IsOneMoreWhere hit old new =
    (k : ℕ) → k < length old → slice_index_or new k 0 ≡ (if hit k then slice_index_or old k 0 + 1 else slice_index_or old k 0)

abbrev pub is_way : Way → Way → Bool
is_way Read Read = true
is_way Write Write = true
is_way Wild Wild = true
is_way way other = false

-- The access is of this way, and has a byte in the box of this number, of boxes of so many bytes.
unfoldable pub touches : Way → (size n : ℕ) → Access → Bool
touches way size n a = is_way way a.way && overlaps a.place a.len (n * size) (n * size + size)

-- how many accesses touch each of the first boxes
unfoldable pub box_counts : Way → (size count : ℕ) → List Logged → List ℕ
box_counts way size count accesses = map (λ n. count_by (λ (logged : Logged). touches way size n logged.access) accesses) (range_with_len 0 count)

-- the table's rows: a kind of unit each
abbrev pub row_of : Actor → ℕ
row_of Binner = 0
row_of Renderer = 1
row_of (Qpu k) = 2
row_of (Tmu k n) = 3

-- and its columns: a kind of region each
abbrev pub kind_column : Kind → ℕ
kind_column Plain = 2
kind_column Code = 3

abbrev pub column_of : List Buffer → TheSpot → ℕ
column_of buffers (Slot slot offset) = 0
column_of buffers (InBuffer number offset) = kind_column (buffer_at buffers number).kind
column_of buffers Nowhere = 4
column_of buffers spot = 1

-- the number of an access's cell: five columns a row, of which the last is of places in no region
unfoldable pub cell_of : FileModel → List Layout → Access → ℕ
cell_of file layouts a = 5 * row_of a.unit + column_of file.buffers (spot_of file layouts a.place)

-- the access is of this way, and of this cell
unfoldable pub is_of_cell : FileModel → List Layout → Way → ℕ → Access → Bool
is_of_cell file layouts way n a = is_way way a.way && (cell_of file layouts a == n)

-- that of a file whose contents and lists are slices
unfoldable pub is_in_cell : FileParts → List Layout → Way → ℕ → Access → Bool
is_in_cell file layouts way n a = is_of_cell (parts_view file) layouts way n a

-- how many accesses are of each cell
unfoldable pub cell_counts : FileModel → List Layout → Way → List Logged → List ℕ
cell_counts file layouts way accesses =
    map (λ n. count_by (λ (logged : Logged). is_of_cell file layouts way n logged.access) accesses) (range_with_len 0 20)
