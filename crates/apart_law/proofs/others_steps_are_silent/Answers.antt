use Rattle.apart_law.proofs.Silent.{others_silent_law}
use Rattle.apart_law.proofs.others_steps_are_silent.Goals as goal

pub returns : goal.returns
returns c = others_silent_law
