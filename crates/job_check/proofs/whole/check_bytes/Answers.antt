use Rattle.std.proofs.Common.{Err, sym, subst}
use Rattle.field_words.specs.{Questions.Answers, Questions.Refuses, Questions.NeverHidesFault, Questions.with_answers, Sizes.most_memory}
use Rattle.field_words.proofs.Questions.{answers_later, answered_none}
use Rattle.job_format.specs.{Faults.format_questions, Model.FileModel, Reading.file_at}
use Rattle.job_check.specs.{declared.check.Checked.Checked, Faults.file_stages, Emit.IsEmitted}
use Rattle.job_check.specs.Whole.{all_questions, questions_within, format_refused}
use Rattle.job_check.proofs.{Stops.stopped, Stops.not_hidden, Wants.never_hidden}
use Rattle.job_check.proofs.whole.check_bytes.Goals as goal

pub returns-in-Ok-clause-answers : goal.returns-in-Ok-clause-answers
unfolding questions_within
returns-in-Ok-clause-answers c =
    let bytes = c.args.bytes.now in
    let P : FileModel → Checked → Type 0 = λ f checked. IsEmitted f checked.memory checked.layouts.items checked.lengths.items in
    answers_later (with_answers format_refused (format_questions bytes)) (file_stages (file_at bytes)) (P (file_at bytes)) c.check_read.result
    (answered_none format_refused (format_questions bytes) c.in-Ok.ensures.read.0)
    (subst (λ f. Answers (file_stages f) (P f) c.check_read.result) c.in-Ok.ensures.read.1 c.check_read.ensures.answers)

pub returns-in-Err-clause-answers : goal.returns-in-Err-clause-answers
returns-in-Err-clause-answers c =
    subst (λ stop. Refuses (all_questions c.args.bytes.now) stop) (sym c.format_refusal.ensures) (stopped most_memory c.args.bytes.now c.in-Err.stop c.in-Err.ensures.read)

-- Want of memory hides no fault of the format.
pub returns-in-Ok-clause-format : goal.returns-in-Ok-clause-format
returns-in-Ok-clause-format c =
    let format = format_questions c.args.bytes.now in
    never_hidden (with_answers format_refused format) c.check_read.result (answered_none format_refused format c.in-Ok.ensures.read.0)

pub returns-in-Err-clause-format : goal.returns-in-Err-clause-format
returns-in-Err-clause-format c =
    let bytes = c.args.bytes.now in
    subst (λ stop. NeverHidesFault {X = Checked} (with_answers format_refused (format_questions bytes)) (Err stop)) (sym c.format_refusal.ensures)
    (not_hidden Checked bytes c.in-Err.stop c.in-Err.ensures.memory)
