-- What lies in a box, in words: the title of a box of the strip.
use Rattle.std.specs.Prelude.{ℕ, ◌+◌, ◌-◌, ◌*◌, false, List, [], ◌++◌, length, codes, if◌then◌else◌}
use Rattle.std.specs.Fmt.{decimal, digits}
use Rattle.field_words.specs.Sizes.{slot_size}
use Rattle.buffer_table.specs.{declared.buffer.Buffer.Buffer, declared.buffer.Kind.Kind, declared.buffer.Regions.Regions, Table.buffer_at}
use Rattle.buffer_table.specs.declared.buffer.Kind.TheVariants.{Plain, Code}
use Rattle.job_format.specs.Model.{FileModel}
use Rattle.pictures.specs.{Forest.Forest, Forest.Words, Forest.Element, Forest.Beside, Grid.overlaps, Parts.each}

abbrev pub kind_word : Kind → List ℕ
kind_word Plain = codes "data"
kind_word Code = codes "code"

-- the places of the first and the last byte from a place to before another
unfoldable pub span : (from to : ℕ) → List ℕ
span from to = codes "0x" ++ (digits 16 false from ++ (codes " to 0x" ++ digits 16 false (to - 1)))

-- the line of a part of this name, if it has a byte from `from` to before `to`
unfoldable pub part_line : (from to : ℕ) → (name : List ℕ) → (place size : ℕ) → List ℕ
part_line from to name place size =
    if overlaps place size from to then codes "\n" ++ (name ++ (codes ": " ++ span place (place + size))) else []

abbrev pub buffer_name : (number : ℕ) → Buffer → List ℕ
buffer_name number buffer =
    codes "buffer " ++ (decimal number ++ (codes ", " ++ (kind_word buffer.kind ++ (codes " of client " ++ decimal buffer.client))))

unfoldable pub buffer_line : (from to : ℕ) → List Buffer → ℕ → Forest
buffer_line from to buffers n =
    Words (part_line from to (buffer_name n (buffer_at buffers n)) (buffer_at buffers n).place (buffer_at buffers n).size)

unfoldable pub regions_lines : (from to : ℕ) → Regions → List ℕ
regions_lines from to regions =
    part_line from to (codes "lists of the jobs") regions.lists_place regions.lists_size
    ++ part_line from to (codes "tile slots") regions.tile_place (slot_size * regions.tile_slots)

-- the title of a box: its own bytes, and a line of each part that has one of them
unfoldable pub box_title : FileModel → (from to : ℕ) → Forest
box_title file from to = Element (codes "title") []
    (Beside (Words (span from to))
    (Beside (Words (regions_lines from to file.regions)) (each (buffer_line from to file.buffers) (length file.buffers))))
