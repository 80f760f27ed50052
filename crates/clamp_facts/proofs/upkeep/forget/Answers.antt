use Rattle.std.proofs.Common.{◌+◌, sym, subst, ◌∙◌}
use Rattle.clamp_facts.specs.{Facts.maker_of, Upkeep.IsTableOf}
use Rattle.clamp_facts.proofs.Entries.{target_keeps, switch_keeps, quiet_keeps}
use Rattle.clamp_facts.proofs.upkeep.forget.Goals as goal

pub returns-then-is_marked-clause-after : goal.returns-then-is_marked-clause-after
returns-then-is_marked-clause-after g c =
    subst (IsTableOf c.args.code.now (maker_of c.args.code.now (c.args.at + 1))) (sym c.forget_all.ensures.entries)
    (target_keeps c.args.code.now c.args.at c.requires.before.few (sym c.is_marked.ensures ∙ c.if-is_marked.true))

pub returns-then-switch_acts-clause-after : goal.returns-then-switch_acts-clause-after
returns-then-switch_acts-clause-after g c =
    subst (IsTableOf c.args.code.now (maker_of c.args.code.now (c.args.at + 1))) (sym c.forget_accumulators.ensures.entries)
    (switch_keeps c.args.code.now c.args.at c.args.table.now (sym c.is_marked.ensures ∙ c.if-is_marked.false) (sym c.switch_acts.ensures ∙ c.if-switch_acts.true) c.requires.before)

pub returns-else-switch_acts-clause-after : goal.returns-else-switch_acts-clause-after
returns-else-switch_acts-clause-after g c =
    quiet_keeps c.args.code.now c.args.at c.args.table.now (sym c.is_marked.ensures ∙ c.if-is_marked.false) (sym c.switch_acts.ensures ∙ c.if-switch_acts.false) c.requires.before
