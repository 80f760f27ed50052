use Rattle.machine_law.proofs.Apart.{apart_anywhere_law}
use Rattle.machine_law.proofs.clients_apart_anywhere.Goals as goal

pub returns : goal.returns
returns c = apart_anywhere_law
