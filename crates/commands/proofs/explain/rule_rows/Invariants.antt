-- The rules of the families so far.
use Rattle.std.proofs.Common.{◌≡◌, take}
use Rattle.std.specs.List.{flat_map}
use Rattle.commands.specs.Topics.{family_rows}
use Rattle.commands.proofs.explain.rule_rows.Given as goal

abbrev pub invariant-loop-family : goal.invariant-loop-family
invariant-loop-family l = l.text.items ≡ flat_map family_rows (take l.family-index l.families)
