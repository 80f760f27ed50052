-- An entry without a fault leaves the decision to those after it; the first fault ends it.
use Rattle.std.proofs.Common.{sym, ◌∙◌, arith}
use Rattle.field_words.proofs.Questions.{each_on, each_stop, each_end}
use Rattle.job_format.specs.Faults.{buffer_questions}
use Rattle.job_format.proofs.faults.buffers_fault.Goals as goal

pub returns-in-Some : goal.returns-in-Some
returns-in-Some c = record {
  first =
      sym (each_stop (buffer_questions c.args.bytes.now) c.loop-b.b c.args.buffers c.in-Some.fault c.loop-b-test.true (sym c.in-Some.ensures.first))
      ∙ c.loop-b.invariant.0;
  inside = tt;
}

pub loop-b-preserved : goal.loop-b-preserved
loop-b-preserved c = (
  each_on (buffer_questions c.args.bytes.now) c.loop-b.b c.args.buffers c.loop-b-test.true (sym c.in_default.ensures.first) ∙ c.loop-b.invariant.0,
  let more = c.in_default.ensures.inside in omega arith,
)

pub returns : goal.returns
returns c = record {
  first = sym (each_end (buffer_questions c.args.bytes.now) c.loop-b.b c.args.buffers c.loop-b-test.false) ∙ c.loop-b.invariant.0;
  inside = let here = c.loop-b.invariant.1 in let past = c.loop-b-test.false in omega arith;
}
