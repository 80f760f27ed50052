use Rattle.day_ends.proofs.Days.{admitted_jobs_end_law}
use Rattle.day_ends.proofs.admitted_jobs_end.Goals as goal

pub returns : goal.returns
returns c = admitted_jobs_end_law
