use Rattle.std.proofs.Common.{sym, ◌∙◌}
use Rattle.strict_rules.proofs.Requests.{acted_here, acted_same, acted_early}
use Rattle.strict_rules.proofs.step.next_acted.Goals as goal

pub returns-then-at-lt2 : goal.returns-then-at-lt2
returns-then-at-lt2 c = c.requires.before ∙ sym (acted_early c.args.code.now c.args.at c.if-at-lt2.true)

pub returns-then-is_switch : goal.returns-then-is_switch
returns-then-is_switch c = sym (acted_here c.args.code.now c.args.at c.if-at-lt2.false (sym c.is_switch.ensures ∙ c.if-is_switch.true))

pub returns : goal.returns
returns c = c.requires.before ∙ sym (acted_same c.args.code.now c.args.at c.if-at-lt2.false (sym c.is_switch.ensures ∙ c.if-is_switch.false))
