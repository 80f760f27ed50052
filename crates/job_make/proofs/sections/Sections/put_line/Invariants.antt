-- What is read so far and what is left is the line.
use Rattle.std.proofs.Common.{◌≡◌, ◌+◌, ◌*◌, ◌≤◌, length, Ok}
use Rattle.job_make.specs.{Made.both, Made.words_of, Made.words_read, Made.line_read, Seen.sections_in}
use Rattle.job_make.proofs.sections.Sections.put_line.Given as goal

abbrev pub invariant-loop-rest : goal.invariant-loop-rest
invariant-loop-rest l = record {
  column : l.column + 2 * length l.rest ≤ 2 * length l.initial.rest + 1;
  read : both (Ok l.out.items) (words_read (sections_in l.self) l.line l.column (words_of l.rest)) ≡ both (Ok l.fn.out.items) (line_read (sections_in l.self) l.line l.fn.text);
}

abbrev pub decreases-loop-rest : goal.decreases-loop-rest
decreases-loop-rest l = length l.rest
