use Rattle.strict_law.proofs.Days.{strict_days_obey_law}
use Rattle.strict_law.proofs.strict_days_obey.Goals as goal

pub returns : goal.returns
returns c = strict_days_obey_law
