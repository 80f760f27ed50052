use Rattle.std.proofs.Common.{sym, subst}
use Rattle.field_words.specs.{Questions.Answers, Questions.Refuses, Questions.with_answers, Sizes.most_memory}
use Rattle.field_words.proofs.Questions.{answers_later, answered_none}
use Rattle.job_format.specs.{Faults.format_questions, Model.FileModel, Reading.file_at}
use Rattle.job_check.specs.{Faults.file_stages, Whole.all_questions, Whole.questions_within, Whole.format_refused}
use Rattle.job_check.proofs.Stops.{stopped}
use Rattle.commands.specs.Image.{IsAccepted}
use Rattle.commands.proofs.check.accept.Goals as goal

pub returns-in-Ok-clause-answers : goal.returns-in-Ok-clause-answers
unfolding questions_within
returns-in-Ok-clause-answers c =
    let bytes = c.args.bytes.now in
    answers_later (with_answers format_refused (format_questions bytes)) (file_stages (file_at bytes)) (IsAccepted (file_at bytes)) c.accept_parts.result
    (answered_none format_refused (format_questions bytes) c.in-Ok.ensures.read.0)
    (subst (λ (f : FileModel). Answers (file_stages f) (IsAccepted f) c.accept_parts.result) c.in-Ok.ensures.read.1 c.accept_parts.ensures)

pub returns-in-Err-clause-answers : goal.returns-in-Err-clause-answers
returns-in-Err-clause-answers c =
    subst (λ stop. Refuses (all_questions c.args.bytes.now) stop) (sym c.format_refusal.ensures) (stopped most_memory c.args.bytes.now c.in-Err.stop c.in-Err.ensures.read)
