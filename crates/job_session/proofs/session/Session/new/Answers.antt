use Rattle.std.proofs.Common.{refl}
use Rattle.job_session.proofs.Slots.{none_fit}
use Rattle.job_session.proofs.session.Session.new.Goals as goal

pub invariant_of-result : goal.invariant_of-result
invariant_of-result c = none_fit _ _ c.none.ensures c.none-2.ensures

pub returns : goal.returns
returns c = rw (c.in_ok-new.ensures, c.none.ensures, c.none-2.ensures, c.plain.ensures) refl
