use Rattle.std.proofs.Common.{◌≡◌, ◌+◌, length}
use Rattle.qpu_isa.specs.Fields.{width_of}
use Rattle.qpu_asm.specs.{Table.widths_of, Seen.rows_seen}
use Rattle.qpu_asm.proofs.disassembler.total_width.Given as goal

abbrev pub invariant-loop-row : goal.invariant-loop-row
invariant-loop-row l = l.total + width_of (widths_of (rows_seen l.rest)) ≡ width_of (widths_of (rows_seen l.fn.rows))

abbrev pub decreases-loop-row : goal.decreases-loop-row
decreases-loop-row l = length l.rest
