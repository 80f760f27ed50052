-- The laws.
use Rattle.strength_law.proofs.Instructions.{signals_law, modes_law, names_law, two_requests_law, conditions_law}
use Rattle.strength_law.proofs.undefined_instructions_are_unsafe.Goals as goal

pub returns-clause-signals : goal.returns-clause-signals
returns-clause-signals c = signals_law

pub returns-clause-modes : goal.returns-clause-modes
returns-clause-modes c = modes_law

pub returns-clause-names : goal.returns-clause-names
returns-clause-names c = names_law

pub returns-clause-two_requests : goal.returns-clause-two_requests
returns-clause-two_requests c = two_requests_law

pub returns-clause-conditions : goal.returns-clause-conditions
returns-clause-conditions c = conditions_law
