use Rattle.std.proofs.Common.{◌++◌, length}
use Rattle.field_words.specs.Questions.{each}
use Rattle.field_words.proofs.Questions.{answers_later, refuses_front}
use Rattle.job_format.specs.Parts.{parts_view}
use Rattle.job_check.specs.{Faults.shaders_stage, Faults.job_stages}
use Rattle.job_check.proofs.Order.{exits}
use Rattle.job_check.proofs.region.check_reported.Goals as goal

pub returns-clause-answers : goal.returns-clause-answers
returns-clause-answers c = λ checked.
    let f = parts_view c.args.file.now in
    let shaders = c.in_ok-shaders.ensures.answers checked in
    answers_later (shaders_stage f) (each (job_stages f) 0 (length f.jobs)) _ c.check_jobs.result shaders.0 (c.check_jobs.ensures.answers shaders.1)

pub returns-in_err-shaders-clause-answers : goal.returns-in_err-shaders-clause-answers
returns-in_err-shaders-clause-answers c = λ checked.
    let f = parts_view c.args.file.now in
    exits (shaders_stage f ++ each (job_stages f) 0 (length f.jobs)) _ c.from_residual.result c.in_err-shaders.field-0.0 c.from_residual.ensures.1
    (refuses_front (shaders_stage f) (each (job_stages f) 0 (length f.jobs)) c.in_err-shaders.field-0.0 (c.in_err-shaders.ensures.answers checked))
