use Rattle.std.proofs.Common.{◌++◌, length, Ok, Err}
use Rattle.field_words.specs.Questions.{each}
use Rattle.field_words.proofs.Questions.{answers_later, refuses_front, names_first}
use Rattle.job_format.specs.Parts.{parts_view}
use Rattle.shader_records.specs.Inputs.{shaders_view}
use Rattle.job_check.specs.{Faults.table_stage_within, Faults.shaders_stage, Faults.job_stages, Faults.stages_within, Region.IsRegion, Region.AreChecked}
use Rattle.job_check.proofs.Order.{exits, under, under_more}
use Rattle.job_check.proofs.region.check_parts.Goals as goal

pub returns-clause-answers : goal.returns-clause-answers
unfolding stages_within table_stage_within
returns-clause-answers c = under c.args.report (λ shaders. AreChecked (parts_view c.args.parts.now) (shaders_view shaders.items)) (λ checked.
    let f = parts_view c.args.parts.now in
    answers_later (table_stage_within c.args.limit f) (shaders_stage f ++ each (job_stages f) 0 (length f.jobs)) (IsRegion f)
    (Ok c.check_reported.new.region) c.in_ok-table.ensures.answers.0 (c.in_ok-check_reported.ensures.answers checked))

pub returns-in_err-table-clause-answers : goal.returns-in_err-table-clause-answers
unfolding stages_within table_stage_within
returns-in_err-table-clause-answers c = under c.args.report (λ shaders. AreChecked (parts_view c.args.parts.now) (shaders_view shaders.items)) (λ checked.
    let f = parts_view c.args.parts.now in
    exits (stages_within c.args.limit f) (IsRegion f) c.from_residual.result c.in_err-table.field-0.0 c.from_residual.ensures.1
    (refuses_front (table_stage_within c.args.limit f) (shaders_stage f ++ each (job_stages f) 0 (length f.jobs)) c.in_err-table.field-0.0 c.in_err-table.ensures.answers))

pub returns-in_err-table-clause-first : goal.returns-in_err-table-clause-first
returns-in_err-table-clause-first c =
    let f = parts_view c.args.parts.now in
    under_more c.args.report (λ shaders. AreChecked (parts_view c.args.parts.now) (shaders_view shaders.items)) (names_first (stages_within c.args.limit f) (IsRegion f) c.from_residual.result) (returns-in_err-table-clause-answers c)

pub returns-in_err-check_reported-clause-answers : goal.returns-in_err-check_reported-clause-answers
unfolding stages_within table_stage_within
returns-in_err-check_reported-clause-answers c = under c.args.report (λ shaders. AreChecked (parts_view c.args.parts.now) (shaders_view shaders.items)) (λ checked.
    let f = parts_view c.args.parts.now in
    let stop = c.in_err-check_reported.field-0.0 in
    exits (stages_within c.args.limit f) (IsRegion f) c.from_residual-in_err-check_reported.result stop c.from_residual-in_err-check_reported.ensures.1
    (answers_later (table_stage_within c.args.limit f) (shaders_stage f ++ each (job_stages f) 0 (length f.jobs)) (IsRegion f) (Err stop)
    c.in_ok-table.ensures.answers.0 (c.in_err-check_reported.ensures.answers checked)))

pub returns-in_err-check_reported-clause-first : goal.returns-in_err-check_reported-clause-first
returns-in_err-check_reported-clause-first c =
    let f = parts_view c.args.parts.now in
    under_more c.args.report (λ shaders. AreChecked (parts_view c.args.parts.now) (shaders_view shaders.items)) (names_first (stages_within c.args.limit f) (IsRegion f) c.from_residual-in_err-check_reported.result) (returns-in_err-check_reported-clause-answers c)

pub returns-clause-first : goal.returns-clause-first
returns-clause-first c = under c.args.report (λ shaders. AreChecked (parts_view c.args.parts.now) (shaders_view shaders.items)) (λ checked. tt)
