-- The picture of a run: that of the memory; how far the run went; who touched what; and how often each box was touched.
use Rattle.std.specs.Prelude.{ℕ, ◌+◌, ◌*◌, ◌/◌, max, List, [], ◌∷◌, ◌++◌, length, codes, decimal}
use Rattle.field_words.specs.declared.access.Way.TheVariants.{Read, Write}
use Rattle.job_format.specs.Model.{FileModel}
use Rattle.relocation.specs.declared.layout.Layout.{Layout}
use Rattle.replay.specs.declared.logged.Log.{Log}
use Rattle.dumper.specs.Trace.{ending_name}
use Rattle.pictures.specs.{Forest.Forest, Forest.Element, Forest.Beside, Forest.word_attribute, Buffers.further_rows, Grid.box_size, Grid.box_count, Parts.label, Parts.drawing, Memory.places, Memory.memory_parts}
use Rattle.pictures.specs.{Counts.box_counts, Counts.cell_counts, Heat.heat_top, Heat.heat, Table.unit_table}

-- how many steps and accesses the run had, and how it ended
unfoldable pub run_numbers : Log → Forest
run_numbers log =
    Beside (label 96 538 (codes "note") (codes "steps:"))
    (Beside (label 230 538 (codes "end") (decimal log.steps))
    (Beside (label 260 538 (codes "note") (codes "accesses:")) (label 424 538 (codes "end") (decimal (length log.accesses.items)))))

unfoldable pub run_head : Log → Forest
run_head log =
    Beside (label 96 514 (codes "head") (codes "Accesses of a run"))
    (Beside (run_numbers log) (label 456 538 (codes "note") (ending_name log.ending)))

-- the table over the whole run
unfoldable pub run_table : FileModel → List Layout → Log → Forest
run_table file layouts log = unit_table (cell_counts file layouts Read log.accesses.items) (cell_counts file layouts Write log.accesses.items)

-- and the heat over the whole run
unfoldable pub run_heat : (memory : ℕ) → Log → Forest
run_heat memory log =
    Beside (places heat_top memory)
    (heat (box_counts Read (box_size memory) (box_count memory) log.accesses.items)
    (box_counts Write (box_size memory) (box_count memory) log.accesses.items))

-- how many rows the drawing has: its strips, beside them at least what their tones mean, and the further lines of its table of buffers
unfoldable pub run_height : FileModel → ℕ
run_height file = heat_top + 20 + max (12 * ((box_count file.mem_size + 15) / 16)) 140 + further_rows (length file.buffers)

-- the move down by so many rows
unfoldable pub downward : (rows : ℕ) → List ℕ
downward rows = codes "translate(0 " ++ (decimal rows ++ codes ")")

-- all that is said of the run, moved below the further lines of the table of buffers
unfoldable pub run_moved : FileModel → List Layout → Log → Forest
run_moved file layouts log =
    Element (codes "g") (word_attribute (codes "transform") (downward (further_rows (length file.buffers))) ∷ [])
    (Beside (run_head log) (Beside (run_table file layouts log) (run_heat file.mem_size log)))

-- all of it
unfoldable pub run_picture : FileModel → List Layout → Log → Forest
run_picture file layouts log =
    drawing (run_height file) (codes "Accesses of a run in the memory of the jobs") (Beside (memory_parts file) (run_moved file layouts log))
