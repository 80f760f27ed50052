-- Those so far.
use Rattle.std.proofs.Common.{◌≡◌, map, take}
use Rattle.vc4check_c.specs.Submission.{content_in}
use Rattle.vc4check_c.proofs.submission.contents.Given as goal

abbrev pub invariant-loop-given : goal.invariant-loop-given
invariant-loop-given l = map (λ c. c.now) l.contents.items ≡ map content_in (take l.given-index l.buffers)
