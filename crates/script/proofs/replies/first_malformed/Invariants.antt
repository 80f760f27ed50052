use Rattle.std.proofs.Common.{◌≡◌, ◌≤◌, ◌+◌, length}
use Rattle.script.specs.Lines.{lines_of, malformed_from, first_malformed}
use Rattle.script.proofs.replies.first_malformed.Given as goal

abbrev pub invariant-loop-rest : goal.invariant-loop-rest
invariant-loop-rest g l = record {
  lines : l.line + length l.rest ≤ length l.fn.text + 1;
  same : malformed_from g.C.Clerk.formed l.line (lines_of l.rest) ≡ first_malformed g.C.Clerk.formed l.fn.text;
}

abbrev pub decreases-loop-rest : goal.decreases-loop-rest
decreases-loop-rest g l = length l.rest
