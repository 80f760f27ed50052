-- The texts of the slots from this one on are left.
use Rattle.std.proofs.Common.{drop}
use Rattle.packets.specs.Packet.{slots_text}
use Rattle.packets.proofs.Underway.{IsUnderway}
use Rattle.packets.proofs.list.put_present.Given as goal

abbrev pub invariant-loop-slot : goal.invariant-loop-slot
invariant-loop-slot l = IsUnderway l.fn.out l.fn.at (slots_text l.fn.slots) l.out l.here (slots_text (drop l.slot-index l.fn.slots))
