use Rattle.strict_law.proofs.SlotRuns.{runs_have_room_law}
use Rattle.strict_law.proofs.runs_have_room.Goals as goal

pub returns : goal.returns
returns c = runs_have_room_law
