-- The laws.
use Rattle.strength_law.proofs.Vertices.{indexes_past_law, attributes_past_law}
use Rattle.strength_law.proofs.vertices_past_are_unsafe.Goals as goal

pub returns-clause-indexes : goal.returns-clause-indexes
returns-clause-indexes c = indexes_past_law

pub returns-clause-attributes : goal.returns-clause-attributes
returns-clause-attributes c = attributes_past_law
