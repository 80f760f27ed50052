use Rattle.std.proofs.Common.{◌+◌}
use Rattle.machine_plan.specs.Choice.{word_at}
use Rattle.qpu_machine.proofs.Fronts.{IsFront}
use Rattle.qpu_machine.proofs.lanes.chosen_row.Given as goal

abbrev pub invariant-loop-e : goal.invariant-loop-e
invariant-loop-e g l = IsFront (λ e. word_at (g.C.Choices.listed l.words) (l.from + e)) l.e l.row
