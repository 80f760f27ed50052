-- The samples so far, and then the room as it was.
use Rattle.std.proofs.Common.{◌≡◌, ◌++◌, map, take, drop}
use Rattle.vc4check_c.specs.Shader.{sample_report}
use Rattle.vc4check_c.proofs.shader.put_samples.Given as goal

abbrev pub invariant-loop-k : goal.invariant-loop-k
invariant-loop-k l = l.room ≡ map sample_report (take l.k l.samples) ++ drop l.k l.fn.room
