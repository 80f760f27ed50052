use Rattle.machine_law.proofs.Sound.{machine_sound_law}
use Rattle.machine_law.proofs.machine_sound.Goals as goal

pub returns : goal.returns
returns c = machine_sound_law
