use Rattle.std.proofs.Common.{sym, ◌∙◌}
use Rattle.overflow_slots.proofs.Desks.{overflow_refused, overflow_2, overflow_5, overflow_done}
use Rattle.overflow_slots.proofs.pool.Pool.overflow.Goals as goal

pub returns-then-self-job-eq0-clause-answers : goal.returns-then-self-job-eq0-clause-answers
returns-then-self-job-eq0-clause-answers c = rw (← c.self.view_is) (λ r agrees.
    overflow_refused r _ c.args.job 2 (overflow_2 r _ c.args.job c.requires c.if-self-job-eq0.true agrees) agrees)

pub returns-then-has_room-clause-answers : goal.returns-then-has_room-clause-answers
returns-then-has_room-clause-answers c = rw (← c.self.view_is) (λ r agrees.
    overflow_refused r _ c.args.job 5 (overflow_5 r _ c.args.job c.requires c.if-self-job-eq0.false (sym c.has_room.ensures ∙ c.if-has_room.true) agrees) agrees)

pub returns-clause-answers : goal.returns-clause-answers
returns-clause-answers c = rw (c.give.ensures.answer, c.give.ensures.kept, ← c.self.view_is) (λ r agrees.
    overflow_done r _ c.args.job c.requires c.if-self-job-eq0.false (sym c.has_room.ensures ∙ c.if-has_room.false) agrees)
