use Rattle.std.proofs.Common.{sym, arith}
use Rattle.qpu_isa.specs.Terms.{is_switch}
use Rattle.shader_flow.specs.Flow.{word, is_threaded, checked_of}
use Rattle.shader_flow.proofs.Bounded.{some_below_here, some_below_none}
use Rattle.shader_flow.proofs.marks.switches.Goals as goal

pub returns-then-is_switch : goal.returns-then-is_switch
unfolding is_threaded
returns-then-is_switch c =
    sym (some_below_here (checked_of c.args.code.now) c.loop-at.at (λ k. is_switch (word c.args.code.now k))
    (omega (arith, c.loop-at-test.true, c.loop-at.invariant.last))
    (grind (arith, c.is_switch.ensures, c.if-is_switch.true)))

pub returns : goal.returns
unfolding is_threaded
returns c =
    sym (some_below_none (checked_of c.args.code.now) (λ k. is_switch (word c.args.code.now k))
    (λ k below. c.loop-at.invariant.before k (omega (arith, below, c.loop-at-test.false, c.loop-at.invariant.last))))
