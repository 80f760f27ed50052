-- All rules of a file, from its bytes on.
use Rattle.std.specs.Prelude.{ℕ, ◌++◌, List, Option}
use Rattle.field_words.specs.{declared.stop.Stop.Stop, declared.stop.Stop.TheVariants.Fault, declared.stop.Stop.TheVariants.NoMemory}
use Rattle.field_words.specs.{Questions.Question, Questions.first_of, Questions.with_answers, Sizes.most_memory}
use Rattle.job_format.specs.{declared.rule.FormatFault.FormatFault, declared.rule.Refusal.Refusal, declared.rule.Stage.TheVariants.F}
use Rattle.job_format.specs.{Faults.format_questions, Reading.file_at}
use Rattle.job_check.specs.Faults.{refusal_by, stages_within}
use Rattle.buffer_table.specs.Table.{most_place}

-- F: the format of the file
abbrev pub format_refused : FormatFault → Refusal
format_refused fault = refusal_by F fault.number fault.place

abbrev pub format_stopped : Stop FormatFault → Stop Refusal
format_stopped (Fault fault) = Fault (format_refused fault)
format_stopped NoMemory = NoMemory

-- All rules by which these bytes can be refused, in the order of refusal, where the memory has at most so many bytes. The stages after
-- the format are asked of the file that the bytes hold.
unfoldable pub questions_within : (limit : ℕ) → List ℕ → List (Question Refusal)
questions_within limit bytes = with_answers format_refused (format_questions bytes) ++ stages_within limit (file_at bytes)

-- those of a job file, whose memory has at most 64 MiB
abbrev pub all_questions : List ℕ → List (Question Refusal)
all_questions = questions_within most_memory

-- those of a file whose places are a driver's, anywhere in the greatest memory
abbrev pub place_questions : List ℕ → List (Question Refusal)
place_questions = questions_within most_place

-- the first broken rule, if any
unfoldable pub refusal_of : List ℕ → Option Refusal
refusal_of bytes = first_of (all_questions bytes)
