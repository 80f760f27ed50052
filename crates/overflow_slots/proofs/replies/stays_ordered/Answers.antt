use Rattle.overflow_slots.proofs.Laws as laws
use Rattle.overflow_slots.proofs.replies.stays_ordered.Goals as goal

pub returns : goal.returns
returns c = laws.stays_ordered
