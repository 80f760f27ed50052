use Rattle.job_queue.proofs.Laws as laws
use Rattle.job_queue.proofs.queue.starts_late.Goals as goal

pub returns : goal.returns
returns c = laws.starts_late
