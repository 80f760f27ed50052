-- The words so far.
use Rattle.std.proofs.Common.{◌≡◌}
use Rattle.job_check.specs.Shaders.{words_in}
use Rattle.job_check.proofs.shaders.words_of.Given as goal

abbrev pub invariant-loop-k : goal.invariant-loop-k
invariant-loop-k l = l.words.items ≡ words_in l.bytes l.k
