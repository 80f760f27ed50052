use Rattle.std.proofs.Common.{sym, arith, ◌∙◌}
use Rattle.shader_flow.specs.Flow.{word, checked_of}
use Rattle.shader_flow.proofs.Bounded.{some_below_here, some_below_none}
use Rattle.strict_rules.specs.{Words.uses_vpm, Rules.has_vpm_part}
use Rattle.strict_rules.proofs.parts.has_vpm_part.Goals as goal

pub returns-then-uses_vpm : goal.returns-then-uses_vpm
unfolding has_vpm_part
returns-then-uses_vpm c =
    sym (some_below_here (checked_of c.args.code.now) c.loop-at.at (λ k. uses_vpm (word c.args.code.now k))
    (omega (arith, c.loop-at-test.true, c.checked-at-end.ensures.value)) (sym c.uses_vpm.ensures ∙ c.if-uses_vpm.true))

pub returns : goal.returns
unfolding has_vpm_part
returns c =
    sym (some_below_none (checked_of c.args.code.now) (λ k. uses_vpm (word c.args.code.now k))
    (λ k below. c.loop-at.invariant k (omega (arith, below, c.loop-at-test.false, c.checked-at-end.ensures.value))))
