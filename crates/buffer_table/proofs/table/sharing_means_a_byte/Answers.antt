use Rattle.buffer_table.proofs.Sharing.{sharing_means_byte}
use Rattle.buffer_table.proofs.table.sharing_means_a_byte.Goals as goal

pub returns : goal.returns
returns c = sharing_means_byte
