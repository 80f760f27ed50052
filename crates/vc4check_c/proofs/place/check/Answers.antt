-- A fault of the format is the first; behind it the rules of the file decide.
use Rattle.std.proofs.Common.{ℕ, List, length, sym, ap, subst, ◌∙◌}
use Rattle.field_words.specs.{Questions.Answers, Questions.Refuses, Questions.with_answers, declared.stop.Stop.Stop}
use Rattle.field_words.specs.declared.stop.Stop.TheVariants.{Fault, NoMemory}
use Rattle.field_words.proofs.Questions.{answers_later, answered_none, answered_some, stops}
use Rattle.job_format.specs.{Faults.format_questions, Model.FileModel, Parts.parts_view, Reading.file_at, declared.rule.FormatFault.FormatFault}
use Rattle.job_check.specs.{Region.IsRegion, Whole.format_refused, Whole.format_stopped}
use Rattle.strict_check.proofs.Named.{findings_count}
use Rattle.vc4check_c.specs.{Hardware.hardware_stages, Places.file_questions}
use Rattle.vc4check_c.proofs.place.check.Goals as goal

stopped : (bytes : List ℕ) (stop : Stop FormatFault) → Refuses (format_questions bytes) stop → Refuses (file_questions bytes) (format_stopped stop)
unfolding file_questions
stopped bytes (Fault fault) refuses =
    stops (with_answers format_refused (format_questions bytes)) (hardware_stages (file_at bytes)) (format_refused fault) (answered_some format_refused (format_questions bytes) fault refuses)
stopped bytes NoMemory refuses = tt

pub returns-in_ok-findings-in-Ok-clause-answers : goal.returns-in_ok-findings-in-Ok-clause-answers
unfolding file_questions
returns-in_ok-findings-in-Ok-clause-answers c =
    let bytes = c.args.bytes.now in
    let found = c.deref.ensures.value ∙ c.in_ok-findings-in-Ok.ensures in
    answers_later (with_answers format_refused (format_questions bytes)) (hardware_stages (file_at bytes)) (IsRegion (file_at bytes)) c.check_for_hardware.result
    (answered_none format_refused (format_questions bytes) c.in-Ok.ensures.read.0)
    (subst (λ (f : FileModel). Answers (hardware_stages f) (IsRegion f) c.check_for_hardware.result) c.in-Ok.ensures.read.1 (c.check_for_hardware.ensures.answers found))

pub check_for_hardware-requires-clause-many : goal.check_for_hardware-requires-clause-many
check_for_hardware-requires-clause-many c = ap length (c.deref.ensures.value ∙ c.in_ok-findings-in-Ok.ensures) ∙ findings_count (parts_view c.in-Ok.parts)

pub returns-in-Err-clause-answers : goal.returns-in-Err-clause-answers
returns-in-Err-clause-answers c =
    subst (λ stop. Refuses (file_questions c.args.bytes.now) stop) (sym c.format_refusal.ensures) (stopped c.args.bytes.now c.in-Err.stop c.in-Err.ensures.read)
