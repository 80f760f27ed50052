use Rattle.day_apart.proofs.Apart.{days_apart_law}
use Rattle.day_apart.proofs.days_apart.Goals as goal

pub returns : goal.returns
returns c = days_apart_law
