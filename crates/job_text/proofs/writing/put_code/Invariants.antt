-- What the lines so far and those of what is left are.
use Rattle.std.proofs.Common.{ℕ, ◌+◌, ◌-◌, ◌≤◌, List, length}
use Rattle.job_text.specs.Cuts.{AreLines}
use Rattle.job_text.specs.Shown.{look_of}
use Rattle.job_text.proofs.writing.put_code.Given as goal

abbrev pub invariant-loop-rest : goal.invariant-loop-rest
invariant-loop-rest l = record {
  few : l.number + length l.rest ≤ length l.code.bytes.now;
  lines : (new : List ℕ) → AreLines (look_of l.view) l.out.items new (l.code.at + (length l.code.bytes.now - length l.rest)) l.rest
      → AreLines (look_of l.view) l.fn.out.items new l.code.at l.code.bytes.now;
}

abbrev pub decreases-loop-rest : goal.decreases-loop-rest
decreases-loop-rest l = length l.rest
