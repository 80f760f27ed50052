use Rattle.std.proofs.Common.{sym, arith, ◌∙◌}
use Rattle.shader_flow.specs.Flow.{checked_of}
use Rattle.shader_flow.proofs.Bounded.{some_below_here, some_below_none}
use Rattle.uniform_stream.specs.Stream.{leaves_open, is_open}
use Rattle.uniform_stream.proofs.walk.is_open.Goals as goal

pub returns-then-leaves_open : goal.returns-then-leaves_open
unfolding is_open
returns-then-leaves_open c =
    sym (some_below_here (checked_of c.args.code.now) c.loop-at.at (leaves_open c.args.code.now)
    (omega (arith, c.loop-at-test.true, c.checked-at-end.ensures.value)) (sym c.leaves_open.ensures ∙ c.if-leaves_open.true))

pub returns : goal.returns
unfolding is_open
returns c =
    sym (some_below_none (checked_of c.args.code.now) (leaves_open c.args.code.now)
    (λ k below. c.loop-at.invariant k (omega (arith, below, c.loop-at-test.false, c.checked-at-end.ensures.value))))
