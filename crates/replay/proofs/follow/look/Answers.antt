use Rattle.replay.proofs.Idle.{goes_on}
use Rattle.replay.proofs.follow.look.Goals as goal

pub returns-then-not-is_empty-clause-goes : goal.returns-then-not-is_empty-clause-goes
returns-then-not-is_empty-clause-goes c = goes_on c.args.machine.now c.enabled_units-units.result.items c.enabled_units-units.ensures c.if-not-is_empty.ensures
