use Rattle.qpu_law.proofs.Starting.{starts_stand_law}
use Rattle.qpu_law.proofs.thread.starts_stand.Goals as goal

pub returns : goal.returns
returns c = starts_stand_law
