use Rattle.std.proofs.Common.{◌≡◌, length, None}
use Rattle.qpu_asm.specs.{Lines.words_of, Walk.read_items, Seen.rows_seen, Seen.spots_in}
use Rattle.qpu_asm.proofs.item.read_items.Given as goal

abbrev pub invariant-loop-cut : goal.invariant-loop-cut
invariant-loop-cut l = read_items (spots_in l.labels) l.index (rows_seen l.kind.rows.now) l.partial (words_of l.rest)
    ≡ read_items (spots_in l.labels) l.index (rows_seen l.kind.rows.now) (record { word = l.kind.above; rows = rows_seen l.kind.rows.now; fault = None }) (words_of l.fn.items)

abbrev pub decreases-loop-cut : goal.decreases-loop-cut
decreases-loop-cut l = length l.rest
