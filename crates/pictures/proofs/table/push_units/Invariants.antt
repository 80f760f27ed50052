use Rattle.std.proofs.Common.{◌≡◌, ◌++◌}
use Rattle.pictures.specs.Forest.{forest_text}
use Rattle.pictures.specs.Parts.{each}
use Rattle.pictures.specs.Table.{unit_part}
use Rattle.pictures.proofs.table.push_units.Given as goal

abbrev pub invariant-loop-row : goal.invariant-loop-row
invariant-loop-row l = l.out.items ≡ l.fn.out.items ++ forest_text (each (unit_part l.counts.reads.items l.counts.writes.items) l.row)
