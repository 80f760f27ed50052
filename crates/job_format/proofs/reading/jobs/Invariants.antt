-- The jobs so far, and the offset where their parts end.
use Rattle.std.proofs.Common.{◌≡◌, map}
use Rattle.job_format.specs.{Parts.job_parts_view, Offsets.handles_offset, Reading.jobs_at}
use Rattle.job_format.proofs.reading.jobs.Given as goal

abbrev pub invariant-loop-j : goal.invariant-loop-j
invariant-loop-j l = (l.at ≡ handles_offset l.bytes l.j) × (map job_parts_view l.read.items ≡ jobs_at l.bytes l.j)
