-- Where no other rule is broken, the strict ones decide.
use Rattle.std.proofs.Common.{◌≡◌, ℕ, List, None, subst, ◌∙◌}
use Rattle.field_words.specs.{Questions.first_of, Questions.Refuses, declared.stop.Stop.Stop}
use Rattle.field_words.specs.declared.stop.Stop.TheVariants.{Fault, NoMemory}
use Rattle.field_words.proofs.Questions.{passes, refuses_front}
use Rattle.job_format.specs.{declared.rule.Refusal.Refusal, Model.FileModel, Reading.file_at}
use Rattle.job_check.specs.Whole.{all_questions}
use Rattle.job_check.proofs.Order.{exits}
use Rattle.strict_check.specs.{Stages.strict_stages, Whole.strict_questions}
use Rattle.commands.proofs.check.accept_strict.Goals as goal

refuses : (bytes : List ℕ) (stop : Stop Refusal) → first_of (all_questions bytes) ≡ None → Refuses (strict_stages (file_at bytes)) stop → Refuses (strict_questions bytes) stop
unfolding strict_questions
refuses bytes (Fault refusal) none broken = passes (all_questions bytes) (strict_stages (file_at bytes)) none ∙ broken
refuses bytes NoMemory none broken = tt

pub returns-in_err-accepted-clause-answers : goal.returns-in_err-accepted-clause-answers
unfolding strict_questions
returns-in_err-accepted-clause-answers c =
    let bytes = c.args.bytes.now in
    exits (strict_questions bytes) _ c.from_residual.result c.in_err-accepted.field-0.0 c.from_residual.ensures.1
    (refuses_front (all_questions bytes) (strict_stages (file_at bytes)) c.in_err-accepted.field-0.0 c.in_err-accepted.ensures.answers)

pub returns-in_err-check_strict_parts-clause-answers : goal.returns-in_err-check_strict_parts-clause-answers
returns-in_err-check_strict_parts-clause-answers c =
    let bytes = c.args.bytes.now in
    let stop = c.in_err-check_strict_parts.field-0.0 in
    exits (strict_questions bytes) _ c.from_residual-in_err-check_strict_parts.result stop c.from_residual-in_err-check_strict_parts.ensures.1
    (refuses bytes stop c.in_ok-accepted.ensures.answers.0
    (subst (λ (f : FileModel). Refuses (strict_stages f) stop) c.in_ok-accepted.ensures.answers.1.file_is c.in_err-check_strict_parts.ensures))

pub returns-clause-answers : goal.returns-clause-answers
unfolding strict_questions
returns-clause-answers c =
    let bytes = c.args.bytes.now in (
      passes (all_questions bytes) (strict_stages (file_at bytes)) c.in_ok-accepted.ensures.answers.0
          ∙ subst (λ (f : FileModel). first_of (strict_stages f) ≡ None) c.in_ok-accepted.ensures.answers.1.file_is c.in_ok-check_strict_parts.ensures.0,
      c.in_ok-accepted.ensures.answers.1,
    )
