use Rattle.strict_law.proofs.Days.{loads_take_oldest_law}
use Rattle.strict_law.proofs.loads_take_oldest.Goals as goal

pub returns : goal.returns
returns c = loads_take_oldest_law
