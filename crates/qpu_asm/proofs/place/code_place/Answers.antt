use Rattle.qpu_asm.proofs.Reading.{kind_open}
use Rattle.qpu_asm.proofs.place.code_place.Goals as goal

pub item_place-requires-clause-open : goal.item_place-requires-clause-open
item_place-requires-clause-open c = rw c.in-Some.ensures at (kind_open c.args.opcode.now)
