-- The contents so far, and the offset where they end.
use Rattle.std.proofs.Common.{◌≡◌, map}
use Rattle.job_format.specs.{Offsets.content_offset, Reading.contents_at}
use Rattle.job_format.proofs.reading.contents.Given as goal

abbrev pub invariant-loop-b : goal.invariant-loop-b
invariant-loop-b l = (l.at ≡ content_offset l.bytes l.b) × (map (λ c. c.now) l.contents.items ≡ contents_at l.bytes l.b)
