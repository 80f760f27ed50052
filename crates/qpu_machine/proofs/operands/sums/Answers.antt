-- The row is whole.
use Rattle.std.proofs.Common.{◌+◌, ◌%◌, ◌^◌, slice_index}
use Rattle.std.specs.Prelude.{unwrap_or}
use Rattle.machine_plan.specs.Choice.{word_at}
use Rattle.qpu_alu.specs.Operation.{add_result_of}
use Rattle.qpu_machine.specs.Operands.{sums}
use Rattle.qpu_machine.proofs.Fronts.{front_all}
use Rattle.qpu_machine.proofs.operands.sums.Goals as goal

pub returns : goal.returns
unfolding sums
returns g c = front_all (λ e. unwrap_or (add_result_of c.args.op (slice_index c.args.x.now e % 2 ^ 32) (slice_index c.args.y.now e % 2 ^ 32)) (word_at (g.C.Choices.listed c.args.words.now) (1 + e))) c.loop-e.e c.loop-e.row c.loop-e-test.false c.loop-e.invariant
