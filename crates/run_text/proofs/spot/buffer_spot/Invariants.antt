-- The buffers that are left tell what all of them tell.
use Rattle.std.proofs.Common.{◌≡◌, ◌+◌, length}
use Rattle.run_text.specs.Spot.{buffer_spot}
use Rattle.run_text.proofs.spot.buffer_spot.Given as goal

abbrev pub invariant-loop-buffer : goal.invariant-loop-buffer
invariant-loop-buffer l = record {
  count : l.number + length l.left ≡ length l.fn.buffers;
  same : buffer_spot l.number l.left l.place ≡ buffer_spot 0 l.fn.buffers l.place;
}

abbrev pub decreases-loop-buffer : goal.decreases-loop-buffer
decreases-loop-buffer l = length l.left
