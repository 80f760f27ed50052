use Rattle.session_safety.proofs.Running.{ready_memories_may_run}
use Rattle.session_safety.proofs.ready_memories_may_run.Goals as goal

pub returns : goal.returns
returns c = ready_memories_may_run
