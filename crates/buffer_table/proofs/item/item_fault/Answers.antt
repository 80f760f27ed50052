-- An item that has passed M2 has a byte.
use Rattle.std.proofs.Common.{sym, ◌∙◌}
use Rattle.buffer_table.proofs.Sounds.{some_byte}
use Rattle.buffer_table.proofs.item.item_fault.Goals as goal

pub is_shared-requires-clause-some : goal.is_shared-requires-clause-some
is_shared-requires-clause-some c = some_byte c.item_at-x.result (sym c.is_off_page.ensures ∙ c.if-is_off_page.false)
