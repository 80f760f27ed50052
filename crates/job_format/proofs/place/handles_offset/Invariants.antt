-- The parts of the jobs before this one end here.
use Rattle.std.proofs.Common.{◌≡◌, ◌+◌, ◌*◌, ◌<◌, ◌^◌}
use Rattle.job_format.specs.Offsets.{handles_offset}
use Rattle.job_format.proofs.place.handles_offset.Given as goal

abbrev pub invariant-loop-k : goal.invariant-loop-k
invariant-loop-k l = (l.offset ≡ handles_offset l.bytes l.k) × (l.offset < 2 ^ 66 + 2 ^ 35 * l.k)
