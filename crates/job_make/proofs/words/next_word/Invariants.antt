use Rattle.job_make.proofs.WordSteps.{Filled}
use Rattle.job_make.proofs.words.next_word.Given as goal

abbrev pub invariant-loop-at : goal.invariant-loop-at
invariant-loop-at l = Filled l.text l.at
