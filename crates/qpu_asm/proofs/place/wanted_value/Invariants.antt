use Rattle.std.proofs.Common.{◌≡◌, length}
use Rattle.qpu_asm.specs.{Place.wanted_value, Seen.rows_seen}
use Rattle.qpu_asm.proofs.place.wanted_value.Given as goal

abbrev pub invariant-loop-row : goal.invariant-loop-row
invariant-loop-row l = wanted_value l.name (rows_seen l.rest) ≡ wanted_value l.name (rows_seen l.fn.rows)

abbrev pub decreases-loop-row : goal.decreases-loop-row
decreases-loop-row l = length l.rest
