-- The law.
use Rattle.job_safety.proofs.Steps.{textures_past_law}
use Rattle.job_safety.proofs.strength.textures_past_are_unsafe.Goals as goal

pub returns : goal.returns
returns c = textures_past_law
