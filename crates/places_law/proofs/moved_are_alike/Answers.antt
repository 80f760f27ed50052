use Rattle.places_law.proofs.Wholes.{moved_are_alike as alike}
use Rattle.places_law.proofs.moved_are_alike.Goals as goal

pub returns : goal.returns
returns c = alike
