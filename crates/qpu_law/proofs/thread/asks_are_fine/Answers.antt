use Rattle.qpu_law.proofs.Join.{asks_are_fine_law}
use Rattle.qpu_law.proofs.thread.asks_are_fine.Goals as goal

pub returns : goal.returns
returns c = asks_are_fine_law
