use Rattle.std.proofs.Common.{sym, ap, ◌∙◌}
use Rattle.clamp_facts.specs.Readings.{clamp_in}
use Rattle.clamp_facts.proofs.Clamps.{clamps_none, clamps_one, clamps_not, clamp_one, clamp_of_made, no_clamp_made}
use Rattle.clamp_facts.proofs.Carriers.{fact_none, fact_some}
use Rattle.clamp_facts.proofs.search.clamp_of.Goals as goal

pub returns-in_default-clause-value : goal.returns-in_default-clause-value
returns-in_default-clause-value g c = sym (ap clamp_in (fact_none c.args.code.now c.args.at c.args.reg c.in_default.ensures.value))

pub returns-in_default-clause-found : goal.returns-in_default-clause-found
returns-in_default-clause-found g c = clamps_none c.args.code.now c.args.at c.args.reg c.in_default.ensures.value

pub returns-then-is_clamp-clause-value : goal.returns-then-is_clamp-clause-value
returns-then-is_clamp-clause-value g c =
    sym (ap clamp_in (fact_some c.args.code.now c.in-Some.j c.args.at c.args.reg c.in-Some.ensures.value)
    ∙ clamp_of_made c.args.code.now c.in-Some.j (sym c.is_clamp.ensures ∙ c.if-is_clamp.true))

pub returns-then-is_clamp-clause-found : goal.returns-then-is_clamp-clause-found
returns-then-is_clamp-clause-found g c =
    clamps_one c.args.code.now c.in-Some.j c.args.at c.args.reg c.in-Some.ensures.found (sym c.is_clamp.ensures ∙ c.if-is_clamp.true)

pub returns-then-is_clamp-clause-only : goal.returns-then-is_clamp-clause-only
returns-then-is_clamp-clause-only g c = λ k clamp.
    clamp_one c.args.code.now c.in-Some.j k c.args.at c.args.reg
    (clamps_one c.args.code.now c.in-Some.j c.args.at c.args.reg c.in-Some.ensures.found (sym c.is_clamp.ensures ∙ c.if-is_clamp.true)) clamp

pub returns-clause-value : goal.returns-clause-value
returns-clause-value g c =
    sym (ap clamp_in (fact_some c.args.code.now c.in-Some.j c.args.at c.args.reg c.in-Some.ensures.value)
    ∙ no_clamp_made c.args.code.now c.in-Some.j (sym c.is_clamp.ensures ∙ c.if-is_clamp.false))

pub returns-clause-found : goal.returns-clause-found
returns-clause-found g c =
    clamps_not c.args.code.now c.in-Some.j c.args.at c.args.reg c.in-Some.ensures.found (sym c.is_clamp.ensures ∙ c.if-is_clamp.false)
