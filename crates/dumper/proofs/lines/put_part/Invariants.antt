-- The front of the piece has the lines of the rows so far.
use Rattle.std.proofs.Common.{◌≡◌, ◌≤◌, ◌<◌, ◌⊎◌, ◌+◌, ◌*◌, ◌-◌, length, take}
use Rattle.dumper.specs.{Text.rows_text, Parts.part_at, Parts.part_rows, Parts.alone}
use Rattle.dumper.proofs.lines.put_part.Given as goal

abbrev pub invariant-loop-next : goal.invariant-loop-next
invariant-loop-next l = record {
  text : take l.at l.piece ≡ rows_text (alone (part_at l.place l.bytes)) (l.place + 16 * l.row) (l.next - l.row);
  from : l.row ≤ l.next;
  upto : l.next ≤ part_rows (part_at l.place l.bytes);
  rows : l.rows ≡ part_rows (part_at l.place l.bytes);
  some : (l.row < l.next) ⊎ (l.at ≡ 0);
  within : l.at ≤ length l.piece;
  long : length l.piece ≡ length l.initial.piece;
}

abbrev pub decreases-loop-next : goal.decreases-loop-next
decreases-loop-next l = l.rows - l.next
