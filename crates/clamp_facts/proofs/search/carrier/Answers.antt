use Rattle.std.proofs.Common.{refl, sym, ◌∙◌}
use Rattle.clamp_facts.specs.Facts.{carrier_of}
use Rattle.clamp_facts.proofs.Carriers.{none_carried, last_not_carried, carrier_none, carrier_is}
use Rattle.clamp_facts.proofs.search.carrier.Goals as goal

pub returns-in_default-clause-value : goal.returns-in_default-clause-value
returns-in_default-clause-value c =
    sym (carrier_none c.args.code.now c.args.at c.args.reg (none_carried c.args.code.now c.args.at c.args.reg c.in_default.ensures)
    (carrier_of c.args.code.now c.args.at c.args.reg) refl)

pub returns-then-is_carried-clause-value : goal.returns-then-is_carried-clause-value
returns-then-is_carried-clause-value c =
    sym (carrier_is c.args.code.now c.in-Some.j c.args.at c.args.reg
    (record { below = c.in-Some.ensures.below; carried = sym c.is_carried.ensures ∙ c.if-is_carried.true }))

pub returns-clause-value : goal.returns-clause-value
returns-clause-value c =
    sym (carrier_none c.args.code.now c.args.at c.args.reg
    (last_not_carried c.args.code.now c.in-Some.j c.args.at c.args.reg c.in-Some.ensures (sym c.is_carried.ensures ∙ c.if-is_carried.false))
    (carrier_of c.args.code.now c.args.at c.args.reg) refl)
