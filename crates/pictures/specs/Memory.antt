-- The picture of a memory: its strip of boxes, sixteen in a row; where rows begin; what boxes show; and its buffers.
use Rattle.std.specs.Prelude.{ℕ, ◌+◌, ◌-◌, ◌*◌, ◌/◌, ◌%◌, ◌==◌, ◌&&◌, nat_lt, Bool, List, [], ◌∷◌, ◌++◌, length, codes, if◌then◌else◌, decimal}
use Rattle.buffer_table.specs.{declared.buffer.Buffer.Buffer, Table.buffer_at}
use Rattle.job_format.specs.Model.{FileModel}
use Rattle.pictures.specs.{Forest.Forest, Forest.Nothing, Forest.Element, Forest.Beside, Forest.word_attribute, Grid.box_size, Grid.box_count, Grid.shade_in, Grid.class_of}
use Rattle.pictures.specs.{Parts.block, Parts.block_attributes, Parts.label, Parts.hex, Parts.each, Parts.drawing, Title.box_title, Buffers.table, Buffers.further_rows}

-- the box of this number
unfoldable pub box_part : FileModel → ℕ → Forest
box_part file n =
    Element (codes "rect") (block_attributes (96 + 18 * (n % 16)) (72 + 12 * (n / 16))
    (class_of (shade_in file (n * box_size file.mem_size) (n * box_size file.mem_size + box_size file.mem_size))))
    (box_title file (n * box_size file.mem_size) (n * box_size file.mem_size + box_size file.mem_size))

-- The number of a buffer stands in the box in which it begins, unless the buffer before it begins there too: two numbers would hide each other.
unfoldable pub is_hidden : (size : ℕ) → List Buffer → ℕ → Bool
is_hidden size buffers n = nat_lt 0 n && ((buffer_at buffers (n - 1)).place / size == (buffer_at buffers n).place / size)

unfoldable pub number_in : (here number : ℕ) → Forest
number_in here number = label (105 + 18 * (here % 16)) (81 + 12 * (here / 16)) (codes "number") (decimal number)

unfoldable pub number_part : (size : ℕ) → List Buffer → ℕ → Forest
number_part size buffers n = if is_hidden size buffers n then Nothing else number_in ((buffer_at buffers n).place / size) n

unfoldable pub strip : FileModel → Forest
strip file = Element (codes "g") (word_attribute (codes "id") (codes "strip") ∷ [])
    (Beside (each (box_part file) (box_count file.mem_size)) (each (number_part (box_size file.mem_size) file.buffers) (length file.buffers)))

-- at each row of a strip that begins at y, the place of its first byte
unfoldable pub place_part : (y memory : ℕ) → ℕ → Forest
place_part y memory n = label 90 (y + 10 + 12 * n) (codes "row") (hex (16 * n * box_size memory))

abbrev pub places : (y memory : ℕ) → Forest
places y memory = each (place_part y memory) ((box_count memory + 15) / 16)

-- the title, how many bytes the memory has, and how many a box
unfoldable pub head : (memory size : ℕ) → Forest
head memory size =
    Beside (label 96 32 (codes "head") (codes "Memory of the jobs"))
    (Beside (label 96 56 (codes "note") (codes "bytes, row by row:"))
    (Beside (label 320 56 (codes "end") (decimal memory))
    (Beside (label 424 56 (codes "note") (codes "bytes of a box:")) (label 600 56 (codes "end") (decimal size)))))

-- what a class shows, in words
unfoldable pub entry : (y : ℕ) → (class words : List ℕ) → Forest
entry y class words = Beside (block 424 y class) (label 448 (y + 11) (codes "note") words)

-- a tone of a kind, and the clients whose buffers have it
unfoldable pub tone_part : (y : ℕ) → (kind : List ℕ) → ℕ → Forest
tone_part y kind tone =
    Beside (block (536 + 105 * tone) y (kind ++ decimal tone))
    (label (560 + 105 * tone) (y + 11) (codes "note") (decimal tone ++ (codes ", " ++ (decimal (tone + 4) ++ codes ", .."))))

unfoldable pub tones : (y : ℕ) → (kind : List ℕ) → Forest
tones y kind = each (tone_part y kind) 4

unfoldable pub legend_kind : (y : ℕ) → (kind : List ℕ) → Forest
legend_kind y kind = Beside (label 424 (y + 11) (codes "note") (kind ++ codes " of client")) (tones y kind)

unfoldable pub legend_regions : Forest
legend_regions = Beside (entry 72 (codes "slots") (codes "tile slots")) (entry 92 (codes "lists") (codes "lists of the jobs"))

unfoldable pub legend_rest : Forest
legend_rest = Beside (entry 152 (codes "several") (codes "more than one of these")) (entry 172 (codes "free") (codes "nothing"))

unfoldable pub legend : Forest
legend = Beside legend_regions (Beside (legend_kind 112 (codes "data")) (Beside (legend_kind 132 (codes "code")) legend_rest))

-- all of it
unfoldable pub memory_parts : FileModel → Forest
memory_parts file =
    Beside (head file.mem_size (box_size file.mem_size))
    (Beside (strip file) (Beside (places 72 file.mem_size) (Beside legend (table file))))

unfoldable pub memory_picture : FileModel → Forest
memory_picture file = drawing (490 + further_rows (length file.buffers)) (codes "Memory of the jobs") (memory_parts file)
