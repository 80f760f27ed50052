use Rattle.std.proofs.Common.{sym, arith, ◌∙◌}
use Rattle.shader_flow.specs.Flow.{is_target}
use Rattle.shader_flow.proofs.Bounded.{some_in_here, some_in_none}
use Rattle.clamp_facts.proofs.search.has_target.Goals as goal

pub returns-then-is_marked : goal.returns-then-is_marked
returns-then-is_marked c =
    sym (some_in_here c.args.from c.args.to c.loop-at.at (is_target c.args.code.now) c.loop-at.invariant.from c.loop-at-test.true (sym c.is_marked.ensures ∙ c.if-is_marked.true))

pub returns : goal.returns
returns c =
    sym (some_in_none c.args.from c.args.to (is_target c.args.code.now)
    (λ k from below. c.loop-at.invariant.before k from (omega (arith, below, c.loop-at-test.false))))
