-- Those so far.
use Rattle.std.proofs.Common.{◌≡◌, map, take}
use Rattle.job_format.proofs.parts.lent.Given as goal

abbrev pub invariant-loop-content : goal.invariant-loop-content
invariant-loop-content l = map (λ c. c.now) l.slices.items ≡ map (λ c. c.items) (take l.content-index l.contents)
