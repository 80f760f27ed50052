use Rattle.std.proofs.Common.{◌≡◌, length}
use Rattle.qpu_isa.specs.Fields.{fields_joined}
use Rattle.qpu_asm.specs.{Table.widths_of, Table.fallbacks_of, Walk.IsOpen, Seen.rows_seen}
use Rattle.qpu_asm.proofs.item.with_defaults.Given as goal

abbrev pub invariant-loop-row : goal.invariant-loop-row
invariant-loop-row l = record {
  still : IsOpen l.word (rows_seen l.rest);
  same : fields_joined l.word (widths_of (rows_seen l.rest)) (fallbacks_of (rows_seen l.rest))
      ≡ fields_joined l.fn.word (widths_of (rows_seen l.fn.rows)) (fallbacks_of (rows_seen l.fn.rows));
}

abbrev pub decreases-loop-row : goal.decreases-loop-row
decreases-loop-row l = length l.rest
