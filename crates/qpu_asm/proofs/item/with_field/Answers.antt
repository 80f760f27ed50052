use Rattle.qpu_asm.proofs.Reading.{open_room, open_step, open_facts}
use Rattle.qpu_asm.proofs.item.with_field.Goals as goal

pub append-requires-clause-room : goal.append-requires-clause-room
append-requires-clause-room c = open_room _ _ _ c.requires.still

pub append-requires-clause-narrow : goal.append-requires-clause-narrow
append-requires-clause-narrow c = (open_facts _ _ _ c.requires.still).high

pub invariant_of-result : goal.invariant_of-result
invariant_of-result c = rw c.append.ensures (open_step _ _ _ _ c.requires.still c.requires.small)
