use Rattle.qpu_asm.proofs.Reading.{kind_open}
use Rattle.qpu_asm.proofs.item.read_code.Goals as goal

pub read_items-requires : goal.read_items-requires
read_items-requires c = rw c.in-Some.ensures at (kind_open c.args.code.first.now)
