-- The table of a file's buffers, beside the strip and below it.
use Rattle.std.specs.Prelude.{ℕ, ◌+◌, ◌-◌, ◌*◌, List, ◌++◌, length, codes, decimal}
use Rattle.buffer_table.specs.{declared.buffer.Buffer.Buffer, Table.buffer_at}
use Rattle.job_format.specs.Model.{FileModel}
use Rattle.pictures.specs.{Forest.Forest, Forest.Beside, Grid.shade_of, Grid.class_of, Parts.block, Parts.label, Parts.hex, Parts.each, Title.kind_word, Roles.use_words}

-- a buffer's line in the table, with what the jobs use it as
unfoldable pub buffer_row : (number : ℕ) → Buffer → (uses : List ℕ) → Forest
buffer_row number buffer uses =
    let y = 252 + 18 * number in
    Beside (block 424 (y - 11) (class_of (shade_of buffer)))
    (Beside (label 490 y (codes "end") (decimal number))
    (Beside (label 540 y (codes "end") (decimal buffer.client))
    (Beside (label 556 y (codes "note") (kind_word buffer.kind ++ uses))
    (Beside (label 760 y (codes "end") (hex buffer.place)) (label 870 y (codes "end") (decimal buffer.size))))))

unfoldable pub row_part : FileModel → ℕ → Forest
row_part file n = buffer_row n (buffer_at file.buffers n) (use_words file.jobs n)

unfoldable pub table_head : Forest
table_head =
    Beside (label 490 230 (codes "end") (codes "buffer"))
    (Beside (label 540 230 (codes "end") (codes "client"))
    (Beside (label 556 230 (codes "note") (codes "kind and use"))
    (Beside (label 760 230 (codes "end") (codes "place")) (label 870 230 (codes "end") (codes "bytes")))))

unfoldable pub table : FileModel → Forest
table file = Beside table_head (each (row_part file) (length file.buffers))

-- how many rows of the drawing the lines take behind the twelve that have room beside the strip
unfoldable pub further_rows : ℕ → ℕ
further_rows count = 18 * (count - 12)
