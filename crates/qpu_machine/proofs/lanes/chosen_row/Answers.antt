-- The row is whole.
use Rattle.std.proofs.Common.{◌+◌}
use Rattle.machine_plan.specs.Choice.{word_at}
use Rattle.qpu_machine.specs.Row.{chosen_row}
use Rattle.qpu_machine.proofs.Fronts.{front_all}
use Rattle.qpu_machine.proofs.lanes.chosen_row.Goals as goal

pub returns : goal.returns
unfolding chosen_row
returns g c = front_all (λ e. word_at (g.C.Choices.listed c.args.words.now) (c.args.from + e)) c.loop-e.e c.loop-e.row c.loop-e-test.false c.loop-e.invariant
