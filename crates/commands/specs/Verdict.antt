-- What commands answer to a job file: what is made of it, or the first rule that it breaks.
use Rattle.std.specs.Prelude.{◌≡◌, ℕ, Bool, List, [], ◌++◌, codes, Option, Some, None, if◌then◌else◌}
use Rattle.field_words.specs.Questions.{Question, IsFirst, first_of}
use Rattle.job_format.specs.{declared.rule.Refusal.Refusal, File.IsFileOf, File.file_upgraded, Model.FileModel, Reading.file_at, Text.file_text}
use Rattle.job_check.specs.{Whole.all_questions, Whole.refusal_of, Emit.memory_of, Emit.all_lengths_of, Jobs.layouts_of}
use Rattle.job_bound.specs.Bound.{bound_text}
use Rattle.dumper.specs.Text.{accepted_text, refused_text}
use Rattle.pictures.specs.{Memory.memory_picture, Forest.forest_text}
use Rattle.seeded_runs.specs.{declared.report.Look.Look, declared.report.Trial.Trial, Report.IsReported}
use Rattle.seeded_runs.specs.declared.report.Look.TheVariants as look
use Rattle.commands.specs.{Asked.questions_by, Asked.refusal_by, Upgrade.format_rules}

-- Where no rule is broken the file is what its bytes spell, and its answer is such a text; else it is refused by the first rule that is: it
-- is broken, and none before it in the list is. A function says what is written of it.
abbrev pub IsVerdictWith : (Refusal → List ℕ) → List ℕ → List (Question Refusal) → Option Refusal → (FileModel → List ℕ → Type 0) → ℕ → List ℕ → Type 0
IsVerdictWith written bytes questions None IsText status text = (status ≡ 0) × IsText (file_at bytes) text × IsFileOf bytes (file_at bytes)
IsVerdictWith written bytes questions (Some refusal) IsText status text = (status ≡ 1) × (text ≡ written refusal) × IsFirst questions refusal

abbrev pub IsVerdict : List ℕ → List (Question Refusal) → Option Refusal → (FileModel → List ℕ → Type 0) → ℕ → List ℕ → Type 0
IsVerdict bytes = IsVerdictWith (refused_text bytes) bytes

-- what is printed of an accepted file: its emitted memory, and where the lists of each job lie there
unfoldable pub image_of : FileModel → List ℕ
image_of f = accepted_text f.version (memory_of f) (layouts_of f) (all_lengths_of f)

-- `check` prints the image, `picture` the text of the picture's elements, `replay` runs of the jobs' machine by scripts that seeds give, and
-- `bound` how many steps the jobs take at most and whether they may wait for a request that isn't there, or where a shader branches back.
-- `check --strict` asks the strict rules too, last of all.
abbrev pub IsCheckAnswer : (strict : Bool) → List ℕ → ℕ → List ℕ → Type 0
IsCheckAnswer strict bytes status text =
    IsVerdict bytes (questions_by strict bytes) (refusal_by strict bytes) (λ f text. text ≡ image_of f) status text

-- Nothing is written of a refusal where a picture is expected.
abbrev pub IsPictureAnswer : List ℕ → ℕ → List ℕ → Type 0
IsPictureAnswer bytes status text =
    IsVerdictWith (λ refusal. []) bytes (all_questions bytes) (refusal_of bytes) (λ f text. text ≡ forest_text (memory_picture f)) status text

abbrev pub refused_run_text : Look → List ℕ → Refusal → List ℕ
refused_run_text look.Picture bytes refusal = []
refused_run_text shown bytes refusal = refused_text bytes refusal

-- Where names of columns are wanted, the lines of runs stand behind a line of those.
unfoldable pub columns : Look → List ℕ
columns look.Steps = codes "# UNIT READS WRITES FROM TO [job JOB]\n"
columns look.Accesses = codes "# STEP UNIT job JOB WAY PLACE BYTES WHERE\n"
columns look.Picture = []
columns (look.Seeds count) = codes "# seed SEED ENDING after STEPS\n"

abbrev pub heading : (headed : Bool) → Look → List ℕ
heading headed shown = if headed then columns shown else []

abbrev pub IsReplayAnswer : (headed : Bool) → Trial → List ℕ → ℕ → List ℕ → Type 0
IsReplayAnswer headed trial bytes status text =
    IsVerdictWith (refused_run_text trial.look bytes) bytes (all_questions bytes) (refusal_of bytes)
    (λ f text. (rows : List ℕ) × IsReported f trial rows × (text ≡ heading headed trial.look ++ rows)) status text

abbrev pub IsBoundAnswer : List ℕ → ℕ → List ℕ → Type 0
IsBoundAnswer bytes status text = IsVerdict bytes (all_questions bytes) (refusal_of bytes) (λ f text. text ≡ bound_text f) status text

-- `upgrade` writes the file with version 2. It asks the rules of the format alone.
abbrev pub IsUpgradeAnswer : List ℕ → ℕ → List ℕ → Type 0
IsUpgradeAnswer bytes status text =
    IsVerdict bytes (format_rules bytes) (first_of (format_rules bytes)) (λ f text. text ≡ file_text (file_upgraded f)) status text
