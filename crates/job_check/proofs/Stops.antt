-- A fault of the format is the first broken rule of all, and want of memory hides none.
use Rattle.std.proofs.Common.{ℕ, List, Err}
use Rattle.field_words.specs.{Questions.Refuses, Questions.NeverHidesFault, Questions.with_answers, declared.stop.Stop.Stop}
use Rattle.field_words.specs.declared.stop.Stop.TheVariants.{Fault, NoMemory}
use Rattle.field_words.proofs.Questions.{answered_none, answered_some, stops}
use Rattle.job_format.specs.{declared.rule.FormatFault.FormatFault, Faults.format_questions, Reading.file_at, declared.file.JobFile.JobFile}
use Rattle.job_check.specs.{Faults.stages_within, Whole.questions_within, Whole.format_refused, Whole.format_stopped}

pub stopped : (limit : ℕ) (bytes : List ℕ) (stop : Stop FormatFault) → Refuses (format_questions bytes) stop → Refuses (questions_within limit bytes) (format_stopped stop)
unfolding questions_within
stopped limit bytes (Fault fault) refuses =
    stops (with_answers format_refused (format_questions bytes)) (stages_within limit (file_at bytes)) (format_refused fault) (answered_some format_refused (format_questions bytes) fault refuses)
stopped limit bytes NoMemory refuses = tt

pub not_hidden : (X : Type 0) (bytes : List ℕ) (stop : Stop FormatFault) → NeverHidesFault {X = JobFile} (format_questions bytes) (Err stop)
    → NeverHidesFault {X = X} (with_answers format_refused (format_questions bytes)) (Err (format_stopped stop))
not_hidden X bytes (Fault fault) hides = tt
not_hidden X bytes NoMemory hides = answered_none format_refused (format_questions bytes) hides
