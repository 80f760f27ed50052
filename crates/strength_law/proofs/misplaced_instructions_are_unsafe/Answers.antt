-- The laws.
use Rattle.strength_law.proofs.Instructions.{branches_anywhere_law, branches_early_law, switches_early_law, switches_alone_law, upper_law, setups_law, takes_early_law}
use Rattle.strength_law.proofs.misplaced_instructions_are_unsafe.Goals as goal

pub returns-clause-branches : goal.returns-clause-branches
returns-clause-branches c = branches_anywhere_law

pub returns-clause-early_branches : goal.returns-clause-early_branches
returns-clause-early_branches c = branches_early_law

pub returns-clause-early_switches : goal.returns-clause-early_switches
returns-clause-early_switches c = switches_early_law

pub returns-clause-lone_switches : goal.returns-clause-lone_switches
returns-clause-lone_switches c = switches_alone_law

pub returns-clause-registers : goal.returns-clause-registers
returns-clause-registers c = upper_law

pub returns-clause-setups : goal.returns-clause-setups
returns-clause-setups c = setups_law

pub returns-clause-uniforms : goal.returns-clause-uniforms
returns-clause-uniforms c = takes_early_law
