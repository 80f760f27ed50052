-- The contents before this buffer's end here.
use Rattle.std.proofs.Common.{◌≡◌, ◌+◌, ◌*◌, ◌<◌, ◌^◌}
use Rattle.job_format.specs.Offsets.{content_offset}
use Rattle.job_format.proofs.place.content_offset.Given as goal

abbrev pub invariant-loop-k : goal.invariant-loop-k
invariant-loop-k l = (l.offset ≡ content_offset l.bytes l.k) × (l.offset < 2 ^ 40 + 2 ^ 32 * l.k)
