use Rattle.job_bound.proofs.Live.{submissions_end_at_items_law}
use Rattle.job_bound.proofs.submissions_end_at_items.Goals as goal

pub returns : goal.returns
returns c = submissions_end_at_items_law
