-- The shaders decide, or else the first job that breaks a rule.
use Rattle.std.proofs.Common.{length, ap, sym, arith, ◌∙◌}
use Rattle.std.proofs.lemmas.List.{length-map}
use Rattle.field_words.specs.Questions.{first_of, each}
use Rattle.field_words.proofs.Questions.{passes, stops, each_on, each_stop, each_end}
use Rattle.job_format.specs.Parts.{parts_view, job_parts_view}
use Rattle.strict_check.specs.Stages.{codes_stage, job_stages, strict_stages}
use Rattle.strict_check.proofs.Going.{leaves}
use Rattle.strict_check.proofs.check.check_strict_findings.Goals as goal

pub returns-in_err-codes_stage : goal.returns-in_err-codes_stage
unfolding strict_stages
returns-in_err-codes_stage c = λ holds.
    let f = parts_view c.args.file.now in
    leaves (strict_stages f) _ c.from_residual.result c.in_err-codes_stage.field-0.0 c.from_residual.ensures.1
    (stops (codes_stage f) (each (job_stages f) 0 (length f.jobs)) c.in_err-codes_stage.field-0.0 (c.in_err-codes_stage.ensures holds))

pub loop-number-preserved : goal.loop-number-preserved
loop-number-preserved c = λ holds.
    each_on (job_stages (parts_view c.args.file.now)) c.loop-number.number (length c.args.file.now.jobs.items) (omega (arith, c.loop-number-test.true, c.len-number-end.ensures))
    (c.in_default.ensures holds).0
    ∙ c.loop-number.invariant holds

pub returns-in-Err : goal.returns-in-Err
unfolding strict_stages
returns-in-Err c = λ holds.
    let f = parts_view c.args.file.now in
    let jobs = c.args.file.now.jobs.items in
    passes (codes_stage f) (each (job_stages f) 0 (length f.jobs)) (c.in_ok-codes_stage.ensures holds).0
    ∙ ap (λ n. first_of (each (job_stages f) 0 n)) (length-map jobs job_parts_view)
    ∙ sym (c.loop-number.invariant holds)
    ∙ each_stop (job_stages f) c.loop-number.number (length jobs) c.in-Err.refusal (omega (arith, c.loop-number-test.true, c.len-number-end.ensures)) (c.in-Err.ensures holds)

pub returns : goal.returns
unfolding strict_stages
returns c = λ holds.
    let f = parts_view c.args.file.now in
    let jobs = c.args.file.now.jobs.items in (
      passes (codes_stage f) (each (job_stages f) 0 (length f.jobs)) (c.in_ok-codes_stage.ensures holds).0
          ∙ ap (λ n. first_of (each (job_stages f) 0 n)) (length-map jobs job_parts_view)
          ∙ sym (c.loop-number.invariant holds)
          ∙ each_end (job_stages f) c.loop-number.number (length jobs) (omega (arith, c.loop-number-test.false, c.len-number-end.ensures)),
      tt,
    )
