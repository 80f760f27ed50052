use Rattle.accepted_law.proofs.Allocating.{files_allocate_law}
use Rattle.accepted_law.proofs.memory.files_allocate.Goals as goal

pub returns : goal.returns
returns c = files_allocate_law
