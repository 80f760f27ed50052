use Rattle.std.proofs.Common.{sym, ap, ◌∙◌}
use Rattle.clamp_facts.specs.Readings.{value_in}
use Rattle.clamp_facts.proofs.Carriers.{fact_none, fact_some, value_of_made}
use Rattle.clamp_facts.proofs.search.immediate_of.Goals as goal

pub returns-in_default-clause-value : goal.returns-in_default-clause-value
returns-in_default-clause-value g c = sym (ap value_in (fact_none c.args.code.now c.args.at c.args.reg c.in_default.ensures.value))

pub returns-clause-value : goal.returns-clause-value
returns-clause-value g c =
    c.loaded_value.ensures
    ∙ sym (ap value_in (fact_some c.args.code.now c.in-Some.j c.args.at c.args.reg c.in-Some.ensures.value) ∙ value_of_made c.args.code.now c.in-Some.j)
