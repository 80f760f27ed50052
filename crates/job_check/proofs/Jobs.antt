-- The jobs of a file.
use Rattle.std.proofs.Common.{◌≡◌, ℕ, zero, suc, ◌<◌, List, [], ◌∷◌, length, get_or, map, sym, ap, subst, arith, ◌∙◌}
use Rattle.std.proofs.{lemmas.List.get_or-map}
use Rattle.std.specs.List.{AllByRecursion}
use Rattle.job_format.specs.{declared.parts.JobParts.JobParts, File.IsJobWellFormed, Model.FileModel, Model.JobModel, Parts.job_parts_view}
use Rattle.job_check.specs.{Jobs.job_of, Jobs.no_job}

-- the job that is read is the file's
pub job_is : {X : Type 0} (view : X → JobModel) (jobs : List X) (f : FileModel) (j : ℕ) (job : X) → f.jobs ≡ map view jobs → j < length jobs → job ≡ get_or jobs j job → view job ≡ job_of f j
unfolding job_of
job_is view jobs f j job same some read =
    ap view read ∙ sym (get_or-map view jobs j job no_job some) ∙ sym (ap (λ js. get_or js j no_job) same)

-- what holds of each job holds of job j
all_at : (jobs : List JobModel) (j : ℕ) → AllByRecursion IsJobWellFormed jobs → j < length jobs → IsJobWellFormed (get_or jobs j no_job)
all_at [] j all below = absurd (omega arith)
all_at (job ∷ jobs) zero all below = all.0
all_at (job ∷ jobs) (suc j) all below = all_at jobs j all.1 (omega (arith, below))

pub job_limits : (f : FileModel) (j : ℕ) → AllByRecursion IsJobWellFormed f.jobs → j < length f.jobs → IsJobWellFormed (job_of f j)
unfolding job_of
job_limits f j all below = all_at f.jobs j all below

-- each job that the code holds is well formed
pub limits_at : (jobs : List JobParts) (k : ℕ) (job : JobParts) → AllByRecursion IsJobWellFormed (map job_parts_view jobs) → k < length jobs → job ≡ get_or jobs k job → IsJobWellFormed (job_parts_view job)
limits_at [] k job all below read = absurd (omega arith)
limits_at (first ∷ jobs) zero job all below read = subst (λ x. IsJobWellFormed (job_parts_view x)) (sym read) all.0
limits_at (first ∷ jobs) (suc k) job all below read = limits_at jobs k job all.1 (omega (arith, below)) read
