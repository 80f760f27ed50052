use Rattle.session_law.proofs.Answering.{calls_are_answered}
use Rattle.session_law.proofs.calls_are_answered.Goals as goal

pub returns : goal.returns
returns c = calls_are_answered
