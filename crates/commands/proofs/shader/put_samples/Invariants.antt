-- What was put so far.
use Rattle.std.proofs.Common.{◌≡◌, ◌++◌, take}
use Rattle.std.specs.List.{flat_map}
use Rattle.commands.specs.ShaderReport.{sample_line}
use Rattle.commands.proofs.shader.put_samples.Given as goal

abbrev pub invariant-loop-sample : goal.invariant-loop-sample
invariant-loop-sample l = l.out.items ≡ l.fn.out.items ++ flat_map sample_line (take l.sample-index l.samples)
