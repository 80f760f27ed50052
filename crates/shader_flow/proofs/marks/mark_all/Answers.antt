use Rattle.std.proofs.Common.{◌||◌, sym, arith, ◌∙◌, ap, refl}
use Rattle.shader_flow.specs.{Bounded.some_below, Flow.makes_target}
use Rattle.shader_flow.proofs.{Bounded.some_below-suc, Ends.end_of-le}
use Rattle.shader_flow.proofs.marks.mark_all.Goals as goal

pub loop-at-init : goal.loop-at-init
unfolding some_below
loop-at-init c = record { size = refl; marks = λ i below. c.requires.clear i }

pub invariant_of-mark_from : goal.invariant_of-mark_from
invariant_of-mark_from c =
    record { ends = c.requires.ends; inside = omega (arith, c.loop-at-test.true, c.requires.ends.last, end_of-le c.args.code.now) }

pub loop-at-preserved : goal.loop-at-preserved
loop-at-preserved c = record {
  size = c.mark_from.ensures.size ∙ c.loop-at.invariant.size;
  marks = λ i below.
      c.mark_from.ensures.marks i (omega (arith, below, c.loop-at.invariant.size))
      ∙ ap (λ b. b || makes_target c.args.code.now c.loop-at.at i) (c.loop-at.invariant.marks i below)
      ∙ sym (some_below-suc c.loop-at.at (λ b. makes_target c.args.code.now b i));
}
