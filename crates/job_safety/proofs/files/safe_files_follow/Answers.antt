use Rattle.job_safety.proofs.Safety.{safe_files_follow_law}
use Rattle.job_safety.proofs.files.safe_files_follow.Goals as goal

pub returns : goal.returns
returns c = safe_files_follow_law
