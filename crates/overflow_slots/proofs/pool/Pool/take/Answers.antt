use Rattle.std.proofs.Common.{refl, sym, ◌∙◌}
use Rattle.overflow_slots.proofs.Desks.{take_refused, take_2, take_4, take_done}
use Rattle.overflow_slots.proofs.pool.Pool.take.Goals as goal

pub returns-then-newest-eq0-clause-answers : goal.returns-then-newest-eq0-clause-answers
returns-then-newest-eq0-clause-answers c = rw (← c.self.view_is) (λ r agrees. take_refused r _ c.args.job 2 (take_2 r _ c.args.job c.requires c.if-newest-eq0.true agrees) agrees)

pub returns-then-not-has_room-clause-answers : goal.returns-then-not-has_room-clause-answers
returns-then-not-has_room-clause-answers c = rw (← c.self.view_is) (λ r agrees.
    take_refused r _ c.args.job 4 (take_4 r _ c.args.job c.requires c.if-newest-eq0.false (sym c.has_room.ensures ∙ c.if-not-has_room.true) agrees) agrees)

pub returns-clause-answers : goal.returns-clause-answers
returns-clause-answers c = rw (c.from.ensures, ← c.self.view_is) (λ r agrees.
    take_done r _ c.args.job _ _ c.requires refl refl c.if-newest-eq0.false (sym c.has_room.ensures ∙ c.if-not-has_room.false) agrees)
