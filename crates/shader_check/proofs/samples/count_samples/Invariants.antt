use Rattle.std.proofs.Common.{◌≤◌}
use Rattle.shader_check.proofs.samples.count_samples.Given as goal

abbrev pub invariant-loop-at : goal.invariant-loop-at
invariant-loop-at l = l.count ≤ l.at
