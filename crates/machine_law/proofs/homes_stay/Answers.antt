use Rattle.machine_law.proofs.Begins.{homes_stay_law}
use Rattle.machine_law.proofs.homes_stay.Goals as goal

pub returns : goal.returns
returns c = homes_stay_law
