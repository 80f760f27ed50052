use Rattle.session_safety.proofs.Running.{submits_may_run}
use Rattle.session_safety.proofs.submits_may_run.Goals as goal

pub returns : goal.returns
returns c = submits_may_run
