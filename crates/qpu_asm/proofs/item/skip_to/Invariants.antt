use Rattle.std.proofs.Common.{◌≡◌, length}
use Rattle.qpu_asm.specs.{Items.read_value, Walk.skip_to, Walk.IsOpen, Seen.rows_seen, Seen.spots_in}
use Rattle.qpu_asm.proofs.item.skip_to.Given as goal

abbrev pub invariant-loop-row : goal.invariant-loop-row
invariant-loop-row l = record {
  still : IsOpen l.word (rows_seen l.rest);
  same : skip_to l.cut.first.now (read_value (spots_in l.labels) l.index l.cut.first.now l.cut.rest.now) l.fault l.word (rows_seen l.rest)
      ≡ skip_to l.cut.first.now (read_value (spots_in l.labels) l.index l.cut.first.now l.cut.rest.now) l.fn.partial.fault l.fn.partial.word l.fn.partial.rows;
}

abbrev pub decreases-loop-row : goal.decreases-loop-row
decreases-loop-row l = length l.rest
