-- What is reported of a job file whose places are a driver's.
use Rattle.std.specs.Prelude.{◌≡◌, ℕ, ◌≤◌, List, ◌++◌, length, Option, Some, None}
use Rattle.std.specs.List.{AllByRecursion}
use Rattle.field_words.specs.Questions.{Question, first_of, IsFirst, with_answers}
use Rattle.job_format.specs.{declared.rule.Refusal.Refusal, Faults.format_questions, File.IsFileOf, Places.offset_of, Reading.file_at}
use Rattle.relocation.specs.Layout.{region_end}
use Rattle.job_check.specs.{Emit.all_lengths_of, Emit.IsInside, Jobs.layouts_of, Region.region_of, Whole.format_refused}
use Rattle.vc4check_c.specs.{declared.jobs.JobsAnswer.JobsAnswer, Jobs.accepted_jobs, Jobs.refused_jobs, Hardware.hardware_stages}

-- All rules of a file for hardware, from its bytes on.
unfoldable pub file_questions : List ℕ → List (Question Refusal)
file_questions bytes = with_answers format_refused (format_questions bytes) ++ hardware_stages (file_at bytes)

-- No rule is broken by these bytes, which spell their file; the lists of its jobs lie in the lists' region, in their order; and this is reported:
-- how many bytes from the region's start on they take, and of each job where its lists lie and how long they are.
pub record ArePlaced (bytes : List ℕ) (answer : JobsAnswer) : Type 0 where
  pub none_broken : first_of (file_questions bytes) ≡ None
  pub spelled : IsFileOf bytes (file_at bytes)
  pub inside : length (region_of (file_at bytes)) ≤ (file_at bytes).regions.lists_size
  pub each_job : AllByRecursion (IsInside (region_end (file_at bytes).regions)) (layouts_of (file_at bytes))
  pub report : answer ≡ accepted_jobs (length (region_of (file_at bytes))) (layouts_of (file_at bytes)) (all_lengths_of (file_at bytes))

-- A rule is broken, none before it in the order of refusal is, and it is reported.
abbrev pub IsNotPlaced : List ℕ → Option Refusal → JobsAnswer → Type 0
IsNotPlaced bytes None answer = ⊥
IsNotPlaced bytes (Some refusal) answer = IsFirst (file_questions bytes) refusal × (answer ≡ refused_jobs refusal.rule (offset_of bytes refusal.place))
