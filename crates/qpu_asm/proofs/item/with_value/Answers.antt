use Rattle.qpu_asm.proofs.Reading.{open_facts}
use Rattle.qpu_asm.proofs.item.with_value.Goals as goal

pub with_field-requires-in-Err-clause-small : goal.with_field-requires-in-Err-clause-small
with_field-requires-in-Err-clause-small c = (open_facts _ _ _ c.requires.still).fallback
