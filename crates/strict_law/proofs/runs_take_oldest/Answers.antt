use Rattle.strict_law.proofs.Runs.{runs_take_oldest_law}
use Rattle.strict_law.proofs.runs_take_oldest.Goals as goal

pub returns : goal.returns
returns c = runs_take_oldest_law
