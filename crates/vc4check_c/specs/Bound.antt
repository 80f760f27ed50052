-- How long the jobs of a file, or that of a submission, may run.
use Rattle.std.specs.Prelude.{◌≡◌, ℕ, ◌%◌, ◌/◌, ◌^◌, List, Option, Some, None, if◌then◌else◌, is_some, unwrap_or}
use Rattle.field_words.specs.Questions.{first_of, IsFirst}
use Rattle.job_format.specs.{declared.rule.Rule.Rule, declared.rule.Refusal.Refusal, Places.offset_of, Reading.file_at}
use Rattle.job_check.specs.Whole.{all_questions, refusal_of}
use Rattle.job_bound.specs.{Bound.bound_in, declared.bound.Bound.Bound}
use Rattle.job_bound.specs.declared.bound.Bound.TheVariants.{Steps, Loops}
use Rattle.vc4check_c.specs.{declared.bound.BoundAnswer.BoundAnswer, declared.submission.Submission.Submission, Jobs.letter_code}
use Rattle.vc4check_c.specs.Submission.{file_of, submission_questions}

abbrev pub no_bound : BoundAnswer
no_bound = record { offset = 0; steps_low = 0; steps_high = 0; stay = 0; items = 0; loops = 0; waits = 0; letter = 0; number = 0 }

-- the numbers, the first in halves, and where a program may wait first, if one may; or where the first branch stands that leads back
unfoldable pub bounded_answer : Bound → BoundAnswer
bounded_answer (Steps most stay items wait) = record no_bound {
  offset = unwrap_or wait 0;
  steps_low = most % 2 ^ 64;
  steps_high = most / 2 ^ 64;
  stay = stay;
  items = items;
  waits = (if is_some wait then 1 else 0);
}
bounded_answer (Loops offset) = record no_bound { offset = offset; loops = 1 }

-- the rule, and the offset in the file of what it is about
unfoldable pub unbounded_answer : Rule → (offset : ℕ) → BoundAnswer
unbounded_answer rule offset = record no_bound { offset = offset; letter = letter_code rule.stage; number = rule.number }

-- No rule is broken, and the bound of the file is the answer.
pub record IsBounded (bytes : List ℕ) (answer : BoundAnswer) : Type 0 where
  pub none_broken : refusal_of bytes ≡ None
  pub report : answer ≡ bounded_answer (bound_in (file_at bytes))

-- A rule is broken, none before it in the order of refusal is, and it is the answer.
abbrev pub IsUnbounded : List ℕ → Option Refusal → BoundAnswer → Type 0
IsUnbounded bytes None answer = ⊥
IsUnbounded bytes (Some refusal) answer = IsFirst (all_questions bytes) refusal × (answer ≡ unbounded_answer refusal.rule (offset_of bytes refusal.place))

-- A submission has no file, and so no offsets in it.
abbrev pub without_offset : BoundAnswer → BoundAnswer
without_offset answer = record answer { offset = 0 }

-- So it is of a submission: no rule of it is broken, and the answer is the bound of the file that it stands for,
pub record IsSubmissionBounded (s : Submission) (answer : BoundAnswer) : Type 0 where
  pub none_broken : first_of (submission_questions s) ≡ None
  pub bound : answer ≡ without_offset (bounded_answer (bound_in (file_of s)))

-- or the first rule that is broken.
abbrev pub IsSubmissionUnbounded : Submission → Option Refusal → BoundAnswer → Type 0
IsSubmissionUnbounded s None answer = ⊥
IsSubmissionUnbounded s (Some refusal) answer = IsFirst (submission_questions s) refusal × (answer ≡ unbounded_answer refusal.rule 0)
