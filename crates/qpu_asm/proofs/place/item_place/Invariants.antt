use Rattle.std.proofs.Common.{◌≡◌, ◌≤◌, ◌+◌, length}
use Rattle.qpu_asm.specs.{Place.placed_words, Place.item_place, Seen.rows_seen, Seen.spots_in}
use Rattle.qpu_asm.proofs.place.item_place.Given as goal

-- the items that are left tell what all of them tell
pub record Going (l : goal.Live-loop-placed) : Type 0 where
  pub room : l.column + length l.rest ≤ l.fn.first.next + length l.fn.first.cut.rest.now
  pub same : item_place (spots_in l.labels) l.kind l.opcode (rows_seen l.of.rows.now) l.partial.rows (placed_words l.column l.rest)
      ≡ item_place (spots_in l.labels) l.kind l.opcode (rows_seen l.of.rows.now) (rows_seen l.of.rows.now) (placed_words l.fn.first.next l.fn.first.cut.rest.now)

abbrev pub invariant-loop-placed : goal.invariant-loop-placed
invariant-loop-placed l = Going l

abbrev pub decreases-loop-placed : goal.decreases-loop-placed
decreases-loop-placed l = length l.rest
