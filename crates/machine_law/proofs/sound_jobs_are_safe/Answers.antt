use Rattle.machine_law.proofs.Sound.{sound_jobs_are_safe_law}
use Rattle.machine_law.proofs.sound_jobs_are_safe.Goals as goal

pub returns : goal.returns
returns c = sound_jobs_are_safe_law
