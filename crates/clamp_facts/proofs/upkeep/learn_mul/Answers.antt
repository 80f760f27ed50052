use Rattle.std.proofs.Common.{sym, subst}
use Rattle.clamp_facts.specs.Upkeep.{IsTableOf, maker_written}
use Rattle.clamp_facts.proofs.Entries.{mul_keeps, mul_none}
use Rattle.clamp_facts.proofs.upkeep.learn_mul.Goals as goal

pub returns-in-Some-clause-after : goal.returns-in-Some-clause-after
returns-in-Some-clause-after g c =
    subst (IsTableOf c.args.code.now (maker_written c.args.code.now c.args.at)) (sym c.put.ensures.entry)
    (mul_keeps c.args.code.now c.args.at c.in-Some.reg c.args.table.now c.in-Some.ensures.value c.in-Some.ensures.register c.requires.before)

pub returns-in_default-clause-after : goal.returns-in_default-clause-after
returns-in_default-clause-after g c = mul_none c.args.code.now c.args.at c.args.table.now c.in_default.ensures.value c.requires.before
