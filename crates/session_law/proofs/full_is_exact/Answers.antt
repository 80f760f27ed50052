use Rattle.session_law.proofs.Filling.{full_is_exact}
use Rattle.session_law.proofs.full_is_exact.Goals as goal

pub returns : goal.returns
returns c = full_is_exact
