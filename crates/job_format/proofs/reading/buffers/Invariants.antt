-- The entries so far.
use Rattle.std.proofs.Common.{◌≡◌}
use Rattle.job_format.specs.Reading.{buffers_at}
use Rattle.job_format.proofs.reading.buffers.Given as goal

abbrev pub invariant-loop-b : goal.invariant-loop-b
invariant-loop-b l = l.buffers.items ≡ buffers_at l.bytes l.b
