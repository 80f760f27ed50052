use Rattle.std.proofs.Common.{◌≡◌, length}
use Rattle.qpu_asm.specs.{Items.has_row, Seen.rows_seen}
use Rattle.qpu_asm.proofs.item.has_row.Given as goal

abbrev pub invariant-loop-row : goal.invariant-loop-row
invariant-loop-row l = has_row l.name (rows_seen l.rest) ≡ has_row l.name (rows_seen l.fn.rows)

abbrev pub decreases-loop-row : goal.decreases-loop-row
decreases-loop-row l = length l.rest
