use Rattle.accepted_law.proofs.Grounds.{files_ground_law}
use Rattle.accepted_law.proofs.memory.files_ground.Goals as goal

pub returns : goal.returns
returns c = files_ground_law
