use Rattle.std.proofs.Common.{◌≡◌, ◌+◌, ◌-◌, ◌++◌, length, IfOk, subst}
use Rattle.field_words.specs.{Questions.Answers, Writes.parts_placed, Writes.zeros}
use Rattle.field_words.proofs.Questions.{answers_later, refuses_front}
use Rattle.job_format.specs.Parts.{parts_view}
use Rattle.shader_records.specs.Inputs.{shaders_view}
use Rattle.job_check.specs.{declared.region.Lists.Lists, Context.InView, Context.IsReported, Context.in_view, Emit.IsPlacedFor, Emit.PartsFit, Emit.list_parts}
use Rattle.job_check.specs.{Faults.handles_stage, Faults.lists_stages, Faults.layout_stage, Faults.job_stages, Jobs.layout_of, Region.region_size, Region.region_parts}
use Rattle.job_check.proofs.Order.{exits}
use Rattle.job_check.proofs.region.check_one.Goals as goal

pub returns-clause-answers : goal.returns-clause-answers
unfolding job_stages
returns-clause-answers c = λ report.
    let f = parts_view c.args.file.now in
    let j = c.args.number in
    let same : c.in_ok-job.job ≡ in_view f j (shaders_view c.args.shaders.now.items) = c.in_ok-job.ensures.answers.1 in
    answers_later (handles_stage f j) (lists_stages f j ++ layout_stage f j) (λ (lists : Lists). IsPlacedFor f j lists.layout lists.lengths) c.place_lists.result c.in_ok-job.ensures.answers.0
    (subst (λ (v : InView). IsReported v → Answers (lists_stages v.file v.number ++ layout_stage v.file v.number) (λ (lists : Lists). IsPlacedFor v.file v.number lists.layout lists.lengths) c.place_lists.result) same c.place_lists.ensures.answers report)

pub returns-clause-written : goal.returns-clause-written
returns-clause-written c = λ report.
    let old = c.args.region.now.items in
    let new = c.place_lists.new.region.items in
    subst (λ (v : InView). IsReported v → IfOk c.place_lists.result (λ _. new ≡ parts_placed (old ++ zeros (region_size v.file (v.number + 1) - length old)) (region_parts v.file v.number)))
    c.in_ok-job.ensures.answers.1 c.place_lists.ensures.written report

pub returns-clause-fit : goal.returns-clause-fit
returns-clause-fit c = λ report.
    subst (λ (v : InView). IsReported v → IfOk c.place_lists.result (λ _. PartsFit (layout_of v.file v.number).end (list_parts v.file v.number)))
    c.in_ok-job.ensures.answers.1 c.place_lists.ensures.fit report

pub returns-in_err-job-clause-answers : goal.returns-in_err-job-clause-answers
unfolding job_stages
returns-in_err-job-clause-answers c = λ report.
    let f = parts_view c.args.file.now in
    let j = c.args.number in
    exits (job_stages f j) (λ (lists : Lists). IsPlacedFor f j lists.layout lists.lengths) c.from_residual.result c.in_err-job.field-0.0 c.from_residual.ensures.1
    (refuses_front (handles_stage f j) (lists_stages f j ++ layout_stage f j) c.in_err-job.field-0.0 c.in_err-job.ensures.answers)
