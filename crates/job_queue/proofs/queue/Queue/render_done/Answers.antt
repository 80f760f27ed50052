use Rattle.job_queue.proofs.Desks.{render_refused, render_done}
use Rattle.job_queue.proofs.queue.Queue.render_done.Goals as goal

pub returns-then-self-clause-answers : goal.returns-then-self-clause-answers
returns-then-self-clause-answers c = rw (← c.self.view_is) (λ p agrees. render_refused p _ c.if-self.true agrees)

pub returns-clause-answers : goal.returns-clause-answers
returns-clause-answers c = rw (← c.self.view_is) (λ p agrees. render_done p _ c.if-self.false agrees)
