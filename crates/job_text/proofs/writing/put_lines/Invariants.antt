-- What the lines so far and those of what is left are.
use Rattle.std.proofs.Common.{◌≡◌, ℕ, ◌+◌, List, length}
use Rattle.job_text.specs.Cuts.{AreLines}
use Rattle.job_text.specs.Shown.{look_of}
use Rattle.job_text.proofs.writing.put_lines.Given as goal

abbrev pub invariant-loop-cut : goal.invariant-loop-cut
invariant-loop-cut l = record {
  at : l.at + length l.rest ≡ l.span.at + length l.span.bytes.now;
  lines : (new : List ℕ) → AreLines (look_of l.view) l.out.items new l.at l.rest → AreLines (look_of l.view) l.fn.out.items new l.span.at l.span.bytes.now;
}
