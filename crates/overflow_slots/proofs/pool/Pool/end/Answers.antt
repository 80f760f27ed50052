use Rattle.overflow_slots.proofs.Desks.{end_refused, end_done}
use Rattle.overflow_slots.proofs.pool.Pool.end.Goals as goal

pub returns-then-self-job-eq0-clause-answers : goal.returns-then-self-job-eq0-clause-answers
returns-then-self-job-eq0-clause-answers c = rw (← c.self.view_is) (λ r agrees. end_refused r _ c.args.job c.requires c.if-self-job-eq0.true agrees)

pub returns-clause-answers : goal.returns-clause-answers
returns-clause-answers c = rw (← c.self.view_is) (λ r agrees.
    end_done r _ c.args.job c.free_count.result c.free_all.new.owners c.requires c.if-self-job-eq0.false c.free_all.ensures.freed c.free_all.ensures.sized c.free_count.ensures agrees)
