use Rattle.std.proofs.{Common.◌∙◌, Common.length-drop, Common.arith, lemmas.List.take_rest}
use Rattle.job_io.proofs.Growth.{Appends-next}
use Rattle.job_io.proofs.whole.write_all.Goals as goal

pub loop-at-preserved : goal.loop-at-preserved
loop-at-preserved g c = record {
  within = omega (arith, length-drop c.loop-at.at c.args.part.now, rw take_rest at c.in_ok-at.ensures.within);
  written = Appends-next _ _ _ c.args.part.now c.loop-at.at c.in_ok-at.field-0 c.loop-at.invariant.written c.in_ok-at.ensures.bytes;
  steady = c.in_ok-at.ensures.steady ∙ c.loop-at.invariant.steady;
  nothing = λ none. absurd (omega (arith, none, c.loop-at-test.true));
}
