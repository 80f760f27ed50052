use Rattle.buffer_table.proofs.Order.{least_fault}
use Rattle.buffer_table.proofs.table.first_fault_is_least.Goals as goal

pub returns : goal.returns
returns c = least_fault
