use Rattle.accepted_law.proofs.BinWalking.{draws_begin_law}
use Rattle.accepted_law.proofs.bins.draws_begin.Goals as goal

pub returns : goal.returns
returns c = draws_begin_law
