use Rattle.std.proofs.Common.{◌≡◌, ◌≤◌, ◌++◌, length, true}
use Rattle.qpu_isa.specs.Fields.{width_of}
use Rattle.qpu_asm.specs.{Table.widths_of, Walk.are_ready, Printed.rows_text, Seen.rows_seen}
use Rattle.qpu_asm.proofs.disassembler.put_items.Given as goal

abbrev pub invariant-loop-row : goal.invariant-loop-row
invariant-loop-row l = record {
  ready : are_ready (rows_seen l.rest) ≡ true;
  low : l.low ≡ width_of (widths_of (rows_seen l.rest));
  wide : l.low ≤ 64;
  text : l.out.items ++ rows_text (rows_seen l.rest) l.word ≡ l.fn.out.items ++ rows_text (rows_seen l.fn.rows) l.word;
}

abbrev pub decreases-loop-row : goal.decreases-loop-row
decreases-loop-row l = length l.rest
