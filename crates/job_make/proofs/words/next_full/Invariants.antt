-- What is left has the same full words.
use Rattle.std.proofs.Common.{◌≡◌, length}
use Rattle.job_make.specs.Made.{words_of, full_of}
use Rattle.job_make.proofs.words.next_full.Given as goal

abbrev pub invariant-loop-rest : goal.invariant-loop-rest
invariant-loop-rest l = full_of (words_of l.rest) ≡ full_of (words_of l.text)

abbrev pub decreases-loop-rest : goal.decreases-loop-rest
decreases-loop-rest l = length l.rest
