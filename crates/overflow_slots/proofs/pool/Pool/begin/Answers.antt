use Rattle.std.proofs.Common.{sym, ◌∙◌}
use Rattle.overflow_slots.proofs.Desks.{begin_refused, begin_1, begin_6, begin_6_fits, begin_done}
use Rattle.overflow_slots.proofs.pool.Pool.begin.Goals as goal

pub returns-then-self-job-ne0-clause-answers : goal.returns-then-self-job-ne0-clause-answers
returns-then-self-job-ne0-clause-answers c = rw (← c.self.view_is) (λ r agrees.
    begin_refused r _ c.args.job c.args.tiles 1 (begin_1 r _ c.args.job c.args.tiles c.requires.job c.if-self-job-ne0.true agrees) agrees)

pub returns-then-tiles-eq0-clause-answers : goal.returns-then-tiles-eq0-clause-answers
returns-then-tiles-eq0-clause-answers c = rw (← c.self.view_is) (λ r agrees.
    begin_refused r _ c.args.job c.args.tiles 6 (begin_6 r _ c.args.job c.args.tiles c.requires.job c.if-self-job-ne0.false c.if-tiles-eq0.true agrees) agrees)

pub returns-then-not-slot_fits-clause-answers : goal.returns-then-not-slot_fits-clause-answers
returns-then-not-slot_fits-clause-answers c = rw (← c.self.view_is) (λ r agrees.
    begin_refused r _ c.args.job c.args.tiles 6
    (begin_6_fits r _ c.args.job c.args.tiles c.requires.job c.if-self-job-ne0.false c.if-tiles-eq0.false (sym c.slot_fits.ensures.value ∙ c.if-not-slot_fits.true) agrees) agrees)

pub returns-clause-answers : goal.returns-clause-answers
returns-clause-answers c = rw (c.give.ensures.answer, c.give.ensures.kept, c.front.ensures, ← c.self.view_is) (λ r agrees.
    begin_done r _ c.args.job c.args.tiles c.requires.job c.if-self-job-ne0.false c.if-tiles-eq0.false (sym c.slot_fits.ensures.value ∙ c.if-not-slot_fits.false) agrees)
