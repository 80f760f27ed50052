-- What is read so far and what is left is the word.
use Rattle.std.proofs.Common.{◌≡◌, ◌+◌, ◌≤◌, length, Ok}
use Rattle.job_make.specs.Made.{both, digits_read}
use Rattle.job_make.proofs.reading.put_digits.Given as goal

abbrev pub invariant-loop-first : goal.invariant-loop-first
invariant-loop-first l = record {
  column : l.at + length l.rest ≤ l.column + length l.word;
  read : both (Ok l.out.items) (digits_read l.line l.at l.rest) ≡ both (Ok l.fn.out.items) (digits_read l.line l.column l.word);
}

abbrev pub decreases-loop-first : goal.decreases-loop-first
decreases-loop-first l = length l.rest
