-- All rules of a file with the strict ones, from its bytes on.
use Rattle.std.specs.Prelude.{ℕ, ◌++◌, List, Option}
use Rattle.field_words.specs.Questions.{Question, first_of, with_answers}
use Rattle.job_format.specs.{declared.rule.Refusal.Refusal, Faults.format_questions, Reading.file_at}
use Rattle.job_check.specs.Whole.{all_questions, format_refused}
use Rattle.strict_check.specs.Stages.{strict_stages}

-- The strict rules come last: one is asked where no other rule is broken.
unfoldable pub strict_questions : List ℕ → List (Question Refusal)
strict_questions bytes = all_questions bytes ++ strict_stages (file_at bytes)

-- those of the format and the strict ones alone
unfoldable pub read_questions : List ℕ → List (Question Refusal)
read_questions bytes = with_answers format_refused (format_questions bytes) ++ strict_stages (file_at bytes)

-- the first that is broken, if any
unfoldable pub strict_refusal_of : List ℕ → Option Refusal
strict_refusal_of bytes = first_of (strict_questions bytes)
