use Rattle.session_law.proofs.Filling.{places_are_lowest}
use Rattle.session_law.proofs.places_are_lowest.Goals as goal

pub returns : goal.returns
returns c = places_are_lowest
