-- The bytes so far, and those of what is left.
use Rattle.std.proofs.Common.{◌≡◌, ◌+◌, ◌≤◌, ◌^◌, length, false}
use Rattle.script.specs.Lines.{lines_of}
use Rattle.job_make.specs.Made.{size_from}
use Rattle.job_make.proofs.reading.size_from.Given as goal

abbrev pub invariant-loop-rest : goal.invariant-loop-rest
invariant-loop-rest l = record {
  line : l.line + length l.rest ≤ 2 ^ 63;
  count : length l.out.items + size_from l.line l.inside (lines_of l.rest) ≡ size_from l.fn.line false (lines_of l.fn.lines);
}

abbrev pub decreases-loop-rest : goal.decreases-loop-rest
decreases-loop-rest l = length l.rest
