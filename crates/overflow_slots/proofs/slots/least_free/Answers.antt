use Rattle.std.proofs.Common.{◌==◌, ◌∙◌, sym, get_or, eq-eqb, ne_eqb}
use Rattle.overflow_slots.proofs.Searches.{first_here, first_later, first_never}
use Rattle.overflow_slots.proofs.slots.least_free.Goals as goal

pub returns-then-owners-slot-eq0-clause-first : goal.returns-then-owners-slot-eq0-clause-first
returns-then-owners-slot-eq0-clause-first c =
    sym (first_here (λ slot. get_or c.args.owners.now slot 0 == 0) c.loop-slot.slot c.args.slots c.loop-slot-test.true (eq-eqb _ 0 c.if-owners-slot-eq0.true))
    ∙ c.loop-slot.invariant

pub loop-slot-preserved : goal.loop-slot-preserved
loop-slot-preserved c =
    first_later (λ slot. get_or c.args.owners.now slot 0 == 0) c.loop-slot.slot c.args.slots c.loop-slot-test.true (ne_eqb _ 0 c.if-owners-slot-eq0.false)
    ∙ c.loop-slot.invariant

pub returns-clause-first : goal.returns-clause-first
returns-clause-first c =
    sym (first_never (λ slot. get_or c.args.owners.now slot 0 == 0) c.loop-slot.slot c.args.slots c.loop-slot-test.false) ∙ c.loop-slot.invariant
