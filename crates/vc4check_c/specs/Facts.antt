-- What a job file says at the place of a refusal, as C knows text.
use Rattle.std.specs.Prelude.{ℕ, ◌==◌, ◌&&◌, Bool, false, List, [], Option, Some, None, if◌then◌else◌}
use Rattle.field_words.specs.Questions.{first_of}
use Rattle.job_format.specs.{declared.rule.Refusal.Refusal, Places.offset_of}
use Rattle.job_check.specs.Whole.{all_questions, place_questions}
use Rattle.refusal_facts.specs.{Text.fact_text, Whole.facts_of}
use Rattle.vc4check_c.specs.{declared.jobs.JobsAnswer.JobsAnswer, Jobs.letter_code}

-- An answer of these bytes reports this refusal.
abbrev pub is_report : List ℕ → JobsAnswer → Option Refusal → Bool
is_report bytes answer None = false
is_report bytes answer (Some refusal) =
    answer.letter == letter_code refusal.rule.stage && answer.number == refusal.rule.number && answer.offset == offset_of bytes refusal.place

-- the refusal that an answer of these bytes reports: that of a job file, or that of one whose places are a driver's; else none
abbrev pub refusal_reported : List ℕ → JobsAnswer → Option Refusal
refusal_reported bytes answer =
    if is_report bytes answer (first_of (all_questions bytes)) then first_of (all_questions bytes)
    else (if is_report bytes answer (first_of (place_questions bytes)) then first_of (place_questions bytes) else None)

-- the facts of a refusal, without brackets
abbrev pub facts_by : List ℕ → Option Refusal → List ℕ
facts_by bytes None = []
facts_by bytes (Some refusal) = fact_text (facts_of bytes refusal)

-- those of the refusal that an answer of these bytes reports
abbrev pub facts_reported : List ℕ → JobsAnswer → List ℕ
facts_reported bytes answer = facts_by bytes (refusal_reported bytes answer)
