use Rattle.std.proofs.Common.{◌∙◌, sym, eq-eqb, ne_eqb}
use Rattle.overflow_slots.proofs.Searches.{first_here, first_later, first_never}
use Rattle.job_session.specs.Desk.{is_vacant}
use Rattle.job_session.proofs.session.free_id.Goals as goal

pub returns-then-counts-slot-eq0-clause-first : goal.returns-then-counts-slot-eq0-clause-first
returns-then-counts-slot-eq0-clause-first c =
    sym (first_here (is_vacant c.args.counts.now c.args.client) c.loop-id.id 64 c.loop-id-test.true (rw (← c.slot.ensures) (eq-eqb _ 0 c.if-counts-slot-eq0.true)))
    ∙ c.loop-id.invariant

pub loop-id-preserved : goal.loop-id-preserved
loop-id-preserved c =
    first_later (is_vacant c.args.counts.now c.args.client) c.loop-id.id 64 c.loop-id-test.true (rw (← c.slot.ensures) (ne_eqb _ 0 c.if-counts-slot-eq0.false))
    ∙ c.loop-id.invariant

pub returns-clause-first : goal.returns-clause-first
returns-clause-first c = sym (first_never (is_vacant c.args.counts.now c.args.client) c.loop-id.id 64 c.loop-id-test.false) ∙ c.loop-id.invariant
