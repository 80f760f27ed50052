-- The first shader that breaks a rule decides.
use Rattle.std.proofs.Common.{length, sym, arith, ◌∙◌}
use Rattle.field_words.proofs.Questions.{each_on, each_stop, each_end}
use Rattle.job_format.specs.Parts.{parts_view}
use Rattle.strict_check.specs.Stages.{code_stage, codes_stage}
use Rattle.strict_check.proofs.shaders.codes_stage.Goals as goal

pub loop-b-preserved : goal.loop-b-preserved
loop-b-preserved c = λ holds.
    each_on (code_stage (parts_view c.args.file.now)) c.loop-b.b (length c.args.file.now.buffers.items) (omega (arith, c.loop-b-test.true, c.len-b-end.ensures))
    (c.in_default.ensures holds).0
    ∙ c.loop-b.invariant holds

pub returns-in-Err : goal.returns-in-Err
unfolding codes_stage
returns-in-Err c = λ holds.
    sym (c.loop-b.invariant holds)
    ∙ each_stop (code_stage (parts_view c.args.file.now)) c.loop-b.b (length c.args.file.now.buffers.items) c.in-Err.refusal
    (omega (arith, c.loop-b-test.true, c.len-b-end.ensures)) (c.in-Err.ensures holds)

pub returns : goal.returns
unfolding codes_stage
returns c = λ holds. (
  sym (c.loop-b.invariant holds)
      ∙ each_end (code_stage (parts_view c.args.file.now)) c.loop-b.b (length c.args.file.now.buffers.items) (omega (arith, c.loop-b-test.false, c.len-b-end.ensures)),
  tt,
)
