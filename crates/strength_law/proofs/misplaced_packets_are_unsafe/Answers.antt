-- The laws.
use Rattle.strength_law.proofs.Packets.{binnings_blind_law, primitives_early_law, branches_law, second_loads_law, stores_nothing_law, loads_nothing_law}
use Rattle.strength_law.proofs.misplaced_packets_are_unsafe.Goals as goal

pub returns-clause-binnings : goal.returns-clause-binnings
returns-clause-binnings c = binnings_blind_law

pub returns-clause-primitives : goal.returns-clause-primitives
returns-clause-primitives c = primitives_early_law

pub returns-clause-branches : goal.returns-clause-branches
returns-clause-branches c = branches_law

pub returns-clause-second_loads : goal.returns-clause-second_loads
returns-clause-second_loads c = second_loads_law

pub returns-clause-stores : goal.returns-clause-stores
returns-clause-stores c = stores_nothing_law

pub returns-clause-loads : goal.returns-clause-loads
returns-clause-loads c = loads_nothing_law
