use Rattle.std.proofs.Common.{◌∙◌, arith}
use Rattle.qpu_asm.proofs.Words.{placed_skip}
use Rattle.qpu_asm.proofs.lines.without_spaces.Goals as goal

pub loop-at-preserved : goal.loop-at-preserved
loop-at-preserved c = λ column. placed_skip column c.args.line.now c.loop-at.at (omega arith) c.if-byte-ne32.false ∙ c.loop-at.invariant column
