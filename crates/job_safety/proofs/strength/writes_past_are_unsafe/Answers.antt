-- The laws.
use Rattle.job_safety.proofs.Packets.{states_past_law, items_past_law, stores_past_law}
use Rattle.job_safety.proofs.strength.writes_past_are_unsafe.Goals as goal

pub returns-clause-states : goal.returns-clause-states
returns-clause-states c = states_past_law

pub returns-clause-items : goal.returns-clause-items
returns-clause-items c = items_past_law

pub returns-clause-stores : goal.returns-clause-stores
returns-clause-stores c = stores_past_law
