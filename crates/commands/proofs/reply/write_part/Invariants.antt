-- The lines of the rows so far are appended.
use Rattle.std.proofs.Common.{◌≡◌, ◌≤◌, ◌-◌, length}
use Rattle.std.specs.Io.KnownBytes.{Appends}
use Rattle.dumper.specs.{Text.row_size, Text.rows_text, Parts.part_at, Parts.part_rows, Parts.alone}
use Rattle.commands.proofs.reply.write_part.Given as goal

abbrev pub invariant-loop-row : goal.invariant-loop-row
invariant-loop-row g l = record {
  written : Appends (g.K.Sink.held l.initial.sink) (g.K.Sink.held l.sink) (rows_text (alone (part_at l.place l.bytes)) l.place l.row);
  steady : g.K.Sink.faults l.sink ≡ g.K.Sink.faults l.initial.sink;
  upto : l.row ≤ part_rows (part_at l.place l.bytes);
  rows : l.rows ≡ part_rows (part_at l.place l.bytes);
  room : row_size ≤ length l.piece;
  long : length l.piece ≡ length l.initial.piece;
}

abbrev pub decreases-loop-row : goal.decreases-loop-row
decreases-loop-row g l = l.rows - l.row
