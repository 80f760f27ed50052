use Rattle.overflow_slots.proofs.Desks.{new_agrees}
use Rattle.overflow_slots.proofs.pool.Pool.new.Goals as goal

pub returns : goal.returns
returns c = new_agrees c.args.slots c.requires.few
