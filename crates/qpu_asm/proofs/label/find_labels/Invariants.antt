use Rattle.std.proofs.Common.{◌≡◌, ◌≤◌, ◌+◌, length}
use Rattle.qpu_asm.specs.Labels.{read_lines, spots_of}
use Rattle.qpu_asm.specs.Seen.{spots_in}
use Rattle.qpu_asm.proofs.Assembling.{with_lines}
use Rattle.qpu_asm.proofs.label.find_labels.Given as goal

abbrev pub invariant-loop-rest : goal.invariant-loop-rest
invariant-loop-rest l = record {
  lines : l.line + length l.rest ≤ length l.fn.text + 1;
  indexes : l.index + 1 ≤ l.line;
  same : with_lines (spots_in l.labels) l.line l.index (read_lines l.rest) ≡ spots_of l.fn.text;
}

abbrev pub decreases-loop-rest : goal.decreases-loop-rest
decreases-loop-rest l = length l.rest
