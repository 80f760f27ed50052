use Rattle.std.proofs.Common.{◌+◌, ◌%◌, ◌^◌, slice_index}
use Rattle.std.specs.Prelude.{unwrap_or}
use Rattle.machine_plan.specs.Choice.{word_at}
use Rattle.qpu_alu.specs.Operation.{mul_result_of}
use Rattle.qpu_machine.proofs.Fronts.{IsFront}
use Rattle.qpu_machine.proofs.operands.products.Given as goal

abbrev pub invariant-loop-e : goal.invariant-loop-e
invariant-loop-e g l = IsFront (λ e. unwrap_or (mul_result_of l.op (slice_index l.x e % 2 ^ 32) (slice_index l.y e % 2 ^ 32)) (word_at (g.C.Choices.listed l.words) (17 + e))) l.e l.row
