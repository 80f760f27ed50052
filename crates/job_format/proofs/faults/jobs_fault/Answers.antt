-- An entry without a fault leaves the decision to those after it; the first fault ends it.
use Rattle.std.proofs.Common.{sym, ◌∙◌, arith}
use Rattle.field_words.proofs.Questions.{each_on, each_stop, each_end}
use Rattle.job_format.specs.Faults.{job_questions}
use Rattle.job_format.proofs.faults.jobs_fault.Goals as goal

pub returns-in-Some : goal.returns-in-Some
returns-in-Some c = record {
  first =
      sym (each_stop (job_questions c.args.bytes.now) c.loop-j.j c.args.jobs c.in-Some.fault c.loop-j-test.true (sym c.in-Some.ensures.first))
      ∙ c.loop-j.invariant.0;
  inside = tt;
}

pub loop-j-preserved : goal.loop-j-preserved
loop-j-preserved c = (
  each_on (job_questions c.args.bytes.now) c.loop-j.j c.args.jobs c.loop-j-test.true (sym c.in_default.ensures.first) ∙ c.loop-j.invariant.0,
  let more = c.in_default.ensures.inside in omega arith,
)

pub returns : goal.returns
returns c = record {
  first = sym (each_end (job_questions c.args.bytes.now) c.loop-j.j c.args.jobs c.loop-j-test.false) ∙ c.loop-j.invariant.0;
  inside = let here = c.loop-j.invariant.1 in let past = c.loop-j-test.false in omega arith;
}
