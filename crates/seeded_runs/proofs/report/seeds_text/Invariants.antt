-- The lines of the seeds so far; once there is one, the file is accepted.
use Rattle.std.proofs.Common.{◌≡◌, ◌≤◌, None}
use Rattle.field_words.specs.Questions.{first_of}
use Rattle.job_check.specs.Whole.{all_questions}
use Rattle.job_format.specs.{File.IsFileOf, Reading.file_at}
use Rattle.job_safety.specs.Accepted.{machine_of}
use Rattle.seeded_runs.specs.Report.{AreSeedLines}
use Rattle.seeded_runs.proofs.report.seeds_text.Given as goal

abbrev pub invariant-loop-n : goal.invariant-loop-n
invariant-loop-n l = record {
  none : 1 ≤ l.n → first_of (all_questions l.bytes) ≡ None;
  spelled : 1 ≤ l.n → IsFileOf l.bytes (file_at l.bytes);
  lines : AreSeedLines (machine_of (file_at l.bytes)) l.trial.favoured l.trial.steps l.trial.seed l.n l.text.items;
}
