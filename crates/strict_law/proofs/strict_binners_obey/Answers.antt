use Rattle.strict_law.proofs.ListDays.{strict_binners_obey_law}
use Rattle.strict_law.proofs.strict_binners_obey.Goals as goal

pub returns : goal.returns
returns c = strict_binners_obey_law
