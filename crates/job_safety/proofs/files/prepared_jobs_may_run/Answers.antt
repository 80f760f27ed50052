use Rattle.job_safety.proofs.Prepared.{prepared_jobs_law, prepared_bytes_law}
use Rattle.job_safety.proofs.files.prepared_jobs_may_run.Goals as goal

pub returns-clause-jobs : goal.returns-clause-jobs
returns-clause-jobs c = prepared_jobs_law

pub returns-clause-bytes : goal.returns-clause-bytes
returns-clause-bytes c = prepared_bytes_law
