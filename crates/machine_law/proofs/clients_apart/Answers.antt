use Rattle.machine_law.proofs.Apart.{clients_apart_law}
use Rattle.machine_law.proofs.clients_apart.Goals as goal

pub returns : goal.returns
returns c = clients_apart_law
