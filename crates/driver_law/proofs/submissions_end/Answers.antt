use Rattle.driver_law.proofs.Ends.{submissions_end_law}
use Rattle.driver_law.proofs.submissions_end.Goals as goal

pub returns : goal.returns
returns c = submissions_end_law
