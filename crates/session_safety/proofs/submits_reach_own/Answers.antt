use Rattle.session_safety.proofs.Reach.{submits_reach_own}
use Rattle.session_safety.proofs.submits_reach_own.Goals as goal

pub returns : goal.returns
returns c = submits_reach_own
