use Rattle.std.proofs.{Common.sym, Common.arith, Common.◌∙◌, lemmas.Bool.and_from, lemmas.Bool.and_right}
use Rattle.shader_flow.specs.{Bounded.some_below, Flow.word, Flow.checked_of, Flow.is_threaded}
use Rattle.shader_flow.proofs.Bounded.{some_below_here, some_below_none}
use Rattle.shader_check.specs.Rules.{uses_upper, s26}
use Rattle.shader_check.proofs.whole.breaks_s26.Goals as goal

pub returns-then-uses_upper : goal.returns-then-uses_upper
unfolding s26
returns-then-uses_upper c =
    sym (and_from (is_threaded c.args.code.now) (some_below (checked_of c.args.code.now) (λ k. uses_upper (word c.args.code.now k)))
    (sym c.requires.threaded_is ∙ c.if-not-flow.false)
    (some_below_here (checked_of c.args.code.now) c.loop-at.at (λ k. uses_upper (word c.args.code.now k))
    (omega (arith, c.loop-at-test.true, c.checked-at-end.ensures.value)) (sym c.uses_upper.ensures ∙ c.if-uses_upper.true)))

pub returns : goal.returns
unfolding s26
returns c =
    sym (and_right (is_threaded c.args.code.now) (some_below (checked_of c.args.code.now) (λ k. uses_upper (word c.args.code.now k)))
    (some_below_none (checked_of c.args.code.now) (λ k. uses_upper (word c.args.code.now k))
    (λ k below. c.loop-at.invariant k (omega (arith, below, c.loop-at-test.false, c.checked-at-end.ensures.value)))))
