use Rattle.session_law.proofs.Lying.{submits_are_of_places}
use Rattle.session_law.proofs.submits_are_of_places.Goals as goal

pub returns : goal.returns
returns c = submits_are_of_places
