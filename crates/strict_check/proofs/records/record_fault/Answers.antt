-- The rules of its shaders decide, or else those of its attributes.
use Rattle.std.proofs.Common.{Some, ap, sym, ◌∙◌, ◌+◌}
use Rattle.field_words.proofs.Questions.{stops}
use Rattle.job_format.specs.{Model.JobModel, Parts.parts_view}
use Rattle.strict_check.specs.Stages.{use_questions, record_questions, record_refused}
use Rattle.strict_check.proofs.Going.{leaves, record_broken, record_passes}
use Rattle.strict_check.proofs.records.record_fault.Goals as goal

pub returns-in_err-use_fault : goal.returns-in_err-use_fault
unfolding record_questions
returns-in_err-use_fault c = λ holds.
    let f = parts_view c.args.file.now in
    leaves (record_questions f c.args.number c.args.at c.args.word) _ c.from_residual.result c.in_err-use_fault.field-0.0 c.from_residual.ensures.1
    (stops (use_questions f c.args.number c.args.at) _ c.in_err-use_fault.field-0.0 (c.in_err-use_fault.ensures holds))

pub returns-in-Some : goal.returns-in-Some
returns-in-Some c = λ holds.
    let f = parts_view c.args.file.now in
    record_broken f c.args.number c.args.at c.args.word _ _ _ c.in-Some.place (ap (λ (j : JobModel). j.records) c.job_at.ensures.value)
    (ap (λ n. c.args.at + n) c.handles_size.ensures.value) c.attribute_count.ensures.value (c.in_ok-use_fault.ensures holds).0
    (sym c.selection_fault.ensures ∙ c.in-Some.is)
    ∙ ap Some (sym (c.record_refusal.ensures ∙ ap (λ n. record_refused c.args.number 11 (c.args.at + c.handles_size.result + n)) c.from.ensures))

pub returns-in-None : goal.returns-in-None
returns-in-None c = λ holds.
    let f = parts_view c.args.file.now in (
      record_passes f c.args.number c.args.at c.args.word _ _ _ (ap (λ (j : JobModel). j.records) c.job_at.ensures.value)
          (ap (λ n. c.args.at + n) c.handles_size.ensures.value) c.attribute_count.ensures.value (c.in_ok-use_fault.ensures holds).0
          (sym c.selection_fault.ensures ∙ c.in-None.is),
      tt,
    )
