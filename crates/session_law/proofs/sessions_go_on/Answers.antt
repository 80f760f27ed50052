use Rattle.session_law.proofs.Answering.{sessions_go_on}
use Rattle.session_law.proofs.sessions_go_on.Goals as goal

pub returns : goal.returns
returns c = sessions_go_on
