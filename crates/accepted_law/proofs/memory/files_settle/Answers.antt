use Rattle.accepted_law.proofs.Settling.{files_settle_law}
use Rattle.accepted_law.proofs.memory.files_settle.Goals as goal

pub returns : goal.returns
returns c = files_settle_law
