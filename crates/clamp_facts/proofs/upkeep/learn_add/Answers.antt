use Rattle.std.proofs.Common.{sym, subst, refl}
use Rattle.clamp_facts.specs.{Facts.fact_of_write, Upkeep.IsTableOf, Upkeep.maker_added}
use Rattle.clamp_facts.proofs.Entries.{add_keeps, add_none}
use Rattle.clamp_facts.proofs.upkeep.learn_add.Goals as goal

pub returns-in-Some-clause-after : goal.returns-in-Some-clause-after
returns-in-Some-clause-after g c =
    subst (IsTableOf c.args.code.now (maker_added c.args.code.now c.args.at)) (sym c.put.ensures.entry)
    (add_keeps c.args.code.now c.args.at c.in-Some.reg (fact_of_write c.args.code.now c.args.at) c.fact_set-fact.result c.args.table.now c.requires.checked refl
    c.in-Some.ensures.value c.in-Some.ensures.register c.fact_set-fact.ensures.value c.requires.before)

pub returns-in_default-clause-after : goal.returns-in_default-clause-after
returns-in_default-clause-after g c = add_none c.args.code.now c.args.at c.args.table.now c.in_default.ensures.value c.requires.before
