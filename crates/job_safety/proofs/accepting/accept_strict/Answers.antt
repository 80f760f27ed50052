-- Where no other rule is broken, the strict ones decide.
use Rattle.std.proofs.Common.{◌≡◌, ℕ, List, None, sym, ◌∙◌}
use Rattle.field_words.specs.{Questions.first_of, Questions.Refuses, Questions.with_answers, declared.stop.Stop.Stop}
use Rattle.field_words.specs.declared.stop.Stop.TheVariants.{Fault, NoMemory}
use Rattle.field_words.proofs.{Questions.passes, Questions.refuses_front, Nones.front_none}
use Rattle.job_format.specs.{declared.rule.Refusal.Refusal, Faults.format_questions, Reading.file_at}
use Rattle.job_check.specs.{Faults.file_stages, Whole.all_questions, Whole.questions_within, Whole.format_refused}
use Rattle.job_check.proofs.Order.{exits}
use Rattle.strict_check.specs.{Stages.strict_stages, Whole.strict_questions, Whole.read_questions}
use Rattle.job_safety.proofs.accepting.accept_strict.Goals as goal

-- of bytes that break no other rule
alone : (bytes : List ℕ) → first_of (all_questions bytes) ≡ None → first_of (strict_questions bytes) ≡ first_of (read_questions bytes)
unfolding questions_within strict_questions read_questions
alone bytes none =
    let format = with_answers format_refused (format_questions bytes) in
    passes (all_questions bytes) (strict_stages (file_at bytes)) none
    ∙ sym (passes format (strict_stages (file_at bytes)) (front_none format (file_stages (file_at bytes)) none))

refuses : (bytes : List ℕ) (stop : Stop Refusal) → first_of (all_questions bytes) ≡ None → Refuses (read_questions bytes) stop → Refuses (strict_questions bytes) stop
refuses bytes (Fault refusal) none broken = alone bytes none ∙ broken
refuses bytes NoMemory none broken = tt

pub returns-in_err-accepted-clause-answers : goal.returns-in_err-accepted-clause-answers
unfolding strict_questions
returns-in_err-accepted-clause-answers c =
    let bytes = c.args.bytes.now in
    exits (strict_questions bytes) _ c.from_residual.result c.in_err-accepted.field-0.0 c.from_residual.ensures.1
    (refuses_front (all_questions bytes) (strict_stages (file_at bytes)) c.in_err-accepted.field-0.0 c.in_err-accepted.ensures.answers)

pub returns-in_err-check_strict_bytes-clause-answers : goal.returns-in_err-check_strict_bytes-clause-answers
returns-in_err-check_strict_bytes-clause-answers c =
    let bytes = c.args.bytes.now in
    exits (strict_questions bytes) _ c.from_residual-in_err-check_strict_bytes.result c.in_err-check_strict_bytes.field-0.0
    c.from_residual-in_err-check_strict_bytes.ensures.1
    (refuses bytes c.in_err-check_strict_bytes.field-0.0 c.in_ok-accepted.ensures.answers.0 c.in_err-check_strict_bytes.ensures)

pub returns-clause-answers : goal.returns-clause-answers
returns-clause-answers c =
    (alone c.args.bytes.now c.in_ok-accepted.ensures.answers.0 ∙ c.in_ok-check_strict_bytes.ensures.0, c.in_ok-accepted.ensures.answers.1)
