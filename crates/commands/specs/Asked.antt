-- Which rules are asked of a job file.
use Rattle.std.specs.Prelude.{ℕ, Bool, List, Option, if◌then◌else◌}
use Rattle.field_words.specs.Questions.{Question, first_of}
use Rattle.job_format.specs.declared.rule.Refusal.{Refusal}
use Rattle.job_check.specs.Whole.{all_questions}
use Rattle.strict_check.specs.Whole.{strict_questions}

-- all rules, or these and the strict ones behind them
abbrev pub questions_by : (strict : Bool) → List ℕ → List (Question Refusal)
questions_by strict bytes = if strict then strict_questions bytes else all_questions bytes

-- the first that is broken
abbrev pub refusal_by : (strict : Bool) → List ℕ → Option Refusal
refusal_by strict bytes = first_of (questions_by strict bytes)
