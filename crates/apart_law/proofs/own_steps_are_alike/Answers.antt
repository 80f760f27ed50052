use Rattle.apart_law.proofs.Own.{own_alike_law}
use Rattle.apart_law.proofs.own_steps_are_alike.Goals as goal

pub returns : goal.returns
returns c = own_alike_law
