-- The law.
use Rattle.strength_law.proofs.Vertices.{records_past_law}
use Rattle.strength_law.proofs.records_past_are_unsafe.Goals as goal

pub returns : goal.returns
returns c = records_past_law
