use Rattle.std.proofs.Common.{slice_index, if◌then◌else◌}
use Rattle.qpu_machine.specs.Row.{has_lane}
use Rattle.qpu_machine.proofs.Fronts.{IsFront}
use Rattle.qpu_machine.proofs.lanes.merged.Given as goal

abbrev pub invariant-loop-e : goal.invariant-loop-e
invariant-loop-e l = IsFront (λ e. if has_lane l.mask e then slice_index l.new e else slice_index l.old e) l.e l.row
