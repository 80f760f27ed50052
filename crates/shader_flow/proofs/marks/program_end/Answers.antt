use Rattle.std.proofs.Common.{arith}
use Rattle.shader_flow.proofs.Ends.{end_of-end, end_of-on, end_of-past}
use Rattle.shader_flow.proofs.marks.program_end.Goals as goal

pub returns-then-is_end : goal.returns-then-is_end
returns-then-is_end c =
    let here = end_of-end c.args.code.now c.loop-word.word-index (omega (arith, c.loop-word-test.true)) (grind (arith, c.is_end.ensures, c.if-is_end.true)) in
    omega (arith, here, c.loop-word.invariant.rest)

pub loop-word-preserved : goal.loop-word-preserved
loop-word-preserved c =
    let on = end_of-on c.args.code.now c.loop-word.word-index (omega (arith, c.loop-word-test.true)) (grind (arith, c.is_end.ensures, c.if-is_end.false)) in
    record { counted = omega (arith, c.loop-word.invariant.counted); rest = omega (arith, on, c.loop-word.invariant.rest) }

pub returns : goal.returns
returns c =
    let past = end_of-past c.args.code.now c.loop-word.word-index (omega (arith, c.loop-word-test.false)) in
    omega (arith, past, c.loop-word.invariant.rest)
