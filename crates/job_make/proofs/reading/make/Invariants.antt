-- What is read so far and what is left is the text.
use Rattle.std.proofs.Common.{◌≡◌, ◌+◌, ◌≤◌, length, Ok, []}
use Rattle.script.specs.Lines.{lines_of}
use Rattle.job_make.specs.{Made.both, Made.lines_read, Made.text_bytes, Seen.sections_in}
use Rattle.job_make.proofs.reading.make.Given as goal

abbrev pub invariant-loop-rest : goal.invariant-loop-rest
invariant-loop-rest l = record {
  line : l.line + length l.rest ≤ length l.fn.text + 1;
  read : both (Ok l.out.items) (lines_read (sections_in l.sections) l.line l.inside (lines_of l.rest)) ≡ both (Ok []) (text_bytes l.fn.text);
}

abbrev pub decreases-loop-rest : goal.decreases-loop-rest
decreases-loop-rest l = length l.rest
