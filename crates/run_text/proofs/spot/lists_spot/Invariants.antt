-- The layouts that are left tell what all of them tell.
use Rattle.std.proofs.Common.{◌≡◌, ◌+◌, length}
use Rattle.run_text.specs.Spot.{lists_spot}
use Rattle.run_text.proofs.spot.lists_spot.Given as goal

abbrev pub invariant-loop-layout : goal.invariant-loop-layout
invariant-loop-layout l = record {
  count : l.job + length l.left ≡ length l.fn.layouts;
  same : lists_spot l.job l.left l.place ≡ lists_spot 0 l.fn.layouts l.place;
}

abbrev pub decreases-loop-layout : goal.decreases-loop-layout
decreases-loop-layout l = length l.left
