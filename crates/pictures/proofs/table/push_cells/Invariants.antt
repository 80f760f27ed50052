use Rattle.std.proofs.Common.{◌≡◌, ◌++◌}
use Rattle.pictures.specs.Forest.{forest_text}
use Rattle.pictures.specs.Parts.{each}
use Rattle.pictures.specs.Table.{cell_part}
use Rattle.pictures.proofs.table.push_cells.Given as goal

abbrev pub invariant-loop-column : goal.invariant-loop-column
invariant-loop-column l = l.out.items ≡ l.fn.out.items ++ forest_text (each (cell_part l.counts.reads.items l.counts.writes.items l.row) l.column)
