-- What an accepted job promises besides: it does nothing that the hardware's guide forbids. As in Safe, nothing here speaks of rules.
use Rattle.std.specs.Prelude.{ℕ, List, [], ◌∷◌}
use Rattle.machine_plan.specs.Regions.{Rights}
use Rattle.machine.specs.State.{Units, units_start}
use Rattle.job_format.specs.Model.{FileModel}
use Rattle.promises.specs.Holdings.{of_jobs}
use Rattle.strict_law.specs.Strict.{NeverForbidden}
use Rattle.accepted_strict.specs.Files.{TakesOldest}
use Rattle.vc4check_c.specs.declared.{submission.Submission.Submission, submit.Verdict.Verdict, jobs.JobsAnswer.JobsAnswer}
use Rattle.vc4check_c.specs.Safe.{rights_of, start_of, IsReady, report_of, rights_of_job, AreReady}

-- In every run from these units over this memory, also while others write, no event is forbidden; and a load takes the oldest request that
-- the processor has sent to the texture unit and not loaded, whichever thread sent it.
pub record Obeys (rights : List Rights) (memory : List ℕ) (start : Units) : Type 0 where
  pub never_forbidden : NeverForbidden rights memory start
  pub takes_oldest : TakesOldest rights memory start

-- So it is of the submission's job, from each memory that is ready for it,
abbrev pub ObeysGuide : Submission → (window : List ℕ) → Verdict → Type 0
ObeysGuide s window answer =
    (m : List ℕ) → IsReady s window answer m
    → Obeys (rights_of s answer.lists ∷ []) m (units_start (start_of answer.lists ∷ []))

-- and of all jobs of a job file, together.
abbrev pub AllObeyGuide : FileModel → (window : List ℕ) → JobsAnswer → Type 0
AllObeyGuide f window answer =
    (m : List ℕ) → AreReady f window answer m
    → Obeys (of_jobs f (rights_of_job f answer)) m (units_start (of_jobs f (λ j. start_of (report_of answer j))))
