use Rattle.machine_law.proofs.Sound.{jobs_sound_law}
use Rattle.machine_law.proofs.jobs_sound.Goals as goal

pub returns : goal.returns
returns c = jobs_sound_law
