use Rattle.job_queue.proofs.Desks.{bin_refused, bin_done}
use Rattle.job_queue.proofs.queue.Queue.bin_done.Goals as goal

pub returns-then-self-clause-answers : goal.returns-then-self-clause-answers
returns-then-self-clause-answers c = rw (← c.self.view_is) (λ p agrees. bin_refused p _ c.if-self.true agrees)

pub returns-clause-answers : goal.returns-clause-answers
returns-clause-answers c = rw (← c.self.view_is) (λ p agrees. bin_done p _ c.if-self.false agrees)
