use Rattle.std.proofs.Common.{◌≡◌, ◌≤◌, ◌+◌, length, vec_len}
use Rattle.qpu_asm.specs.{Labels.read_lines, Assembly.Assembled, Walk.lines_words}
use Rattle.qpu_asm.specs.Seen.{spots_in}
use Rattle.qpu_asm.proofs.assembler.assemble.Given as goal

abbrev pub invariant-loop-rest : goal.invariant-loop-rest
invariant-loop-rest l = record {
  lines : l.line + length l.rest ≤ length l.fn.text + 1;
  indexes : vec_len l.words + 1 ≤ l.line;
  same : lines_words (spots_in l.labels) l.line (read_lines l.rest) l.words.items ≡ Assembled l.fn.text;
}

abbrev pub decreases-loop-rest : goal.decreases-loop-rest
decreases-loop-rest l = length l.rest
