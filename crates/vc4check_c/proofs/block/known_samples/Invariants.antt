-- Those so far.
use Rattle.std.proofs.Common.{◌≡◌, map, take}
use Rattle.vc4check_c.specs.Block.{known_sample}
use Rattle.vc4check_c.proofs.block.known_samples.Given as goal

abbrev pub invariant-loop-sample : goal.invariant-loop-sample
invariant-loop-sample l = l.entries.items ≡ map known_sample (take l.sample-index l.samples)
