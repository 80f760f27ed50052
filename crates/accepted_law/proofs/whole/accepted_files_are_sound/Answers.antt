use Rattle.accepted_law.proofs.Joining.{files_sound_law}
use Rattle.accepted_law.proofs.whole.accepted_files_are_sound.Goals as goal

pub returns : goal.returns
returns c = files_sound_law
