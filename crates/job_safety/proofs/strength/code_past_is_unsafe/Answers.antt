-- The law.
use Rattle.job_safety.proofs.Steps.{code_past_law}
use Rattle.job_safety.proofs.strength.code_past_is_unsafe.Goals as goal

pub returns : goal.returns
returns c = code_past_law
