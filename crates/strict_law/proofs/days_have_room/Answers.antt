use Rattle.strict_law.proofs.SlotRuns.{days_have_room_law}
use Rattle.strict_law.proofs.days_have_room.Goals as goal

pub returns : goal.returns
returns c = days_have_room_law
