use Rattle.served_law.proofs.Machine.{steps_serve_law}
use Rattle.served_law.proofs.steps_serve.Goals as goal

pub returns : goal.returns
returns c = steps_serve_law
