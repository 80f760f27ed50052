use Rattle.std.proofs.Common.{arith}
use Rattle.qpu_asm.proofs.Rows.{width_first, width_none}
use Rattle.qpu_asm.proofs.disassembler.total_width.Goals as goal

pub overflow_add-total : goal.overflow_add-total
overflow_add-total c = omega (arith, width_first _ _ _ c.in-Some.ensures.cases.0)

pub loop-row-preserved : goal.loop-row-preserved
loop-row-preserved c = omega (arith, width_first _ _ _ c.in-Some.ensures.cases.0)

pub returns : goal.returns
returns c = omega (arith, width_none _ c.in_default.ensures.cases)
