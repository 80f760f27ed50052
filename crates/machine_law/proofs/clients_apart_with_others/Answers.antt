use Rattle.machine_law.proofs.Apart.{apart_with_others_law}
use Rattle.machine_law.proofs.clients_apart_with_others.Goals as goal

pub returns : goal.returns
returns c = apart_with_others_law
