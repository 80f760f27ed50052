use Rattle.qpu_asm.proofs.Order.{in_order}
use Rattle.qpu_asm.proofs.disassembler.fields_in_order.Goals as goal

pub returns : goal.returns
returns c = in_order
