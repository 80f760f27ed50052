-- The row is whole.
use Rattle.std.proofs.Common.{slice_index, if◌then◌else◌}
use Rattle.qpu_machine.specs.Row.{has_lane, rows_merged}
use Rattle.qpu_machine.proofs.Fronts.{front_all}
use Rattle.qpu_machine.proofs.lanes.merged.Goals as goal

pub returns : goal.returns
unfolding rows_merged
returns c = front_all (λ e. if has_lane c.args.mask e then slice_index c.args.new.now e else slice_index c.args.old.now e) c.loop-e.e c.loop-e.row c.loop-e-test.false c.loop-e.invariant
