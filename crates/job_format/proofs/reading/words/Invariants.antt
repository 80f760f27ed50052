-- The words so far.
use Rattle.std.proofs.Common.{◌≡◌}
use Rattle.job_format.specs.Reading.{words_at}
use Rattle.job_format.proofs.reading.words.Given as goal

abbrev pub invariant-loop-i : goal.invariant-loop-i
invariant-loop-i l = l.words.items ≡ words_at l.bytes l.at l.i
