use Rattle.std.proofs.Common.{Err, sym, subst}
use Rattle.field_words.specs.Questions.{Answers, Refuses, NeverHidesFault, with_answers}
use Rattle.field_words.proofs.Questions.{answers_later, answered_none}
use Rattle.job_format.specs.{Faults.format_questions, Model.FileModel, Reading.file_at}
use Rattle.job_check.specs.{declared.region.Region.Region, Faults.stages_within, Region.IsRegion}
use Rattle.job_check.specs.Whole.{questions_within, format_refused}
use Rattle.job_check.proofs.{Stops.stopped, Stops.not_hidden, Wants.never_hidden}
use Rattle.job_check.proofs.whole.check_places.Goals as goal

pub returns-in-Ok-clause-answers : goal.returns-in-Ok-clause-answers
unfolding questions_within
returns-in-Ok-clause-answers c =
    let bytes = c.args.bytes.now in
    answers_later (with_answers format_refused (format_questions bytes)) (stages_within c.args.limit (file_at bytes)) (IsRegion (file_at bytes)) c.check_parts.result
    (answered_none format_refused (format_questions bytes) c.in-Ok.ensures.read.0)
    (subst (λ (f : FileModel). Answers (stages_within c.args.limit f) (IsRegion f) c.check_parts.result) c.in-Ok.ensures.read.1 c.check_parts.ensures.answers)

pub returns-in-Err-clause-answers : goal.returns-in-Err-clause-answers
returns-in-Err-clause-answers c =
    subst (λ stop. Refuses (questions_within c.args.limit c.args.bytes.now) stop) (sym c.format_refusal.ensures) (stopped c.args.limit c.args.bytes.now c.in-Err.stop c.in-Err.ensures.read)

-- Want of memory hides no fault of the format.
pub returns-in-Ok-clause-format : goal.returns-in-Ok-clause-format
returns-in-Ok-clause-format c =
    let format = format_questions c.args.bytes.now in
    never_hidden (with_answers format_refused format) c.check_parts.result (answered_none format_refused format c.in-Ok.ensures.read.0)

pub returns-in-Err-clause-format : goal.returns-in-Err-clause-format
returns-in-Err-clause-format c =
    let bytes = c.args.bytes.now in
    subst (λ stop. NeverHidesFault {X = Region} (with_answers format_refused (format_questions bytes)) (Err stop)) (sym c.format_refusal.ensures)
    (not_hidden Region bytes c.in-Err.stop c.in-Err.ensures.memory)
