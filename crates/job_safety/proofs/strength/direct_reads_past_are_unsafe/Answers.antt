-- The law.
use Rattle.job_safety.proofs.Steps.{direct_reads_past_law}
use Rattle.job_safety.proofs.strength.direct_reads_past_are_unsafe.Goals as goal

pub returns : goal.returns
returns c = direct_reads_past_law
