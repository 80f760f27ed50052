-- The parts are the file's, and its memory table is asked before they are made.
use Rattle.std.proofs.Common.{◌++◌, subst}
use Rattle.field_words.specs.Questions.{Answers}
use Rattle.field_words.proofs.Questions.{refuses_front, names_first}
use Rattle.job_format.specs.Model.{FileModel, file_view}
use Rattle.job_check.specs.Faults.{table_stage, shaders_stage, jobs_stages, file_stages, stages_within, table_stage_within}
use Rattle.job_check.specs.{declared.check.Checked.Checked, Emit.IsEmitted}
use Rattle.job_check.proofs.{Order.exits, Wants.never_hidden}
use Rattle.job_check.proofs.check.check_job.Goals as goal

pub returns-in_err-table_stage-clause-answers : goal.returns-in_err-table_stage-clause-answers
unfolding stages_within table_stage_within
returns-in_err-table_stage-clause-answers c =
    let f = file_view c.args.file.now in
    exits (file_stages f) (λ checked. IsEmitted f checked.memory checked.layouts.items checked.lengths.items) c.from_residual.result c.in_err-table_stage.field-0.0 c.from_residual.ensures.1
    (refuses_front (table_stage f) (shaders_stage f ++ jobs_stages f) c.in_err-table_stage.field-0.0 c.in_err-table_stage.ensures.answers)

pub returns-in_err-table_stage-clause-first : goal.returns-in_err-table_stage-clause-first
returns-in_err-table_stage-clause-first c =
    let f = file_view c.args.file.now in
    names_first (file_stages f) (λ checked. IsEmitted f checked.memory checked.layouts.items checked.lengths.items) c.from_residual.result (returns-in_err-table_stage-clause-answers c)

pub returns-in_err-parts-clause-memory : goal.returns-in_err-parts-clause-memory
unfolding table_stage_within
returns-in_err-parts-clause-memory c = never_hidden (table_stage (file_view c.args.file.now)) c.from_residual-in_err-parts.result c.in_ok-table_stage.ensures.answers.0

pub returns-clause-first : goal.returns-clause-first
returns-clause-first c =
    let f = file_view c.args.file.now in
    names_first (file_stages f) (λ checked. IsEmitted f checked.memory checked.layouts.items checked.lengths.items) c.check_read.result
    (subst (λ (g : FileModel). Answers (file_stages g) (λ (checked : Checked). IsEmitted g checked.memory checked.layouts.items checked.lengths.items) c.check_read.result) c.in_ok-parts.ensures c.check_read.ensures.answers)
