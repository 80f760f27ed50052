-- A fault of the format is the first; behind it the strict rules decide.
use Rattle.std.proofs.Common.{ℕ, List, sym, subst}
use Rattle.field_words.specs.{Questions.Answers, Questions.Refuses, Questions.with_answers, declared.stop.Stop.Stop}
use Rattle.field_words.specs.declared.stop.Stop.TheVariants.{Fault, NoMemory}
use Rattle.field_words.proofs.Questions.{answers_later, answered_none, answered_some, stops}
use Rattle.job_format.specs.{Faults.format_questions, Model.FileModel, Reading.file_at, declared.rule.FormatFault.FormatFault}
use Rattle.job_check.specs.Whole.{format_refused, format_stopped}
use Rattle.strict_check.specs.{Stages.strict_stages, Whole.read_questions}
use Rattle.strict_check.proofs.whole.check_strict_bytes.Goals as goal

stopped : (bytes : List ℕ) (stop : Stop FormatFault) → Refuses (format_questions bytes) stop → Refuses (read_questions bytes) (format_stopped stop)
unfolding read_questions
stopped bytes (Fault fault) refuses =
    stops (with_answers format_refused (format_questions bytes)) (strict_stages (file_at bytes)) (format_refused fault) (answered_some format_refused (format_questions bytes) fault refuses)
stopped bytes NoMemory refuses = tt

pub returns-in-Ok : goal.returns-in-Ok
unfolding read_questions
returns-in-Ok c =
    let bytes = c.args.bytes.now in
    answers_later (with_answers format_refused (format_questions bytes)) (strict_stages (file_at bytes)) _ c.check_strict_parts.result
    (answered_none format_refused (format_questions bytes) c.in-Ok.ensures.read.0)
    (subst (λ (f : FileModel). Answers (strict_stages f) (λ made. Unit {0}) c.check_strict_parts.result) c.in-Ok.ensures.read.1 c.check_strict_parts.ensures)

pub returns-in-Err : goal.returns-in-Err
returns-in-Err c =
    subst (λ stop. Refuses (read_questions c.args.bytes.now) stop) (sym c.format_refusal.ensures) (stopped c.args.bytes.now c.in-Err.stop c.in-Err.ensures.read)
