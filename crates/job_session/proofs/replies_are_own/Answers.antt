use Rattle.job_session.proofs.Apart.{replies_are_own}
use Rattle.job_session.proofs.replies_are_own.Goals as goal

pub returns : goal.returns
returns c = replies_are_own
