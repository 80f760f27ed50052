-- The lines of the commands so far.
use Rattle.std.proofs.Common.{◌≡◌, take}
use Rattle.std.specs.List.{flat_map}
use Rattle.commands.specs.Topics.{usage_line}
use Rattle.commands.proofs.help.usage_lines.Given as goal

abbrev pub invariant-loop-verb : goal.invariant-loop-verb
invariant-loop-verb l = l.text.items ≡ flat_map usage_line (take l.verb-index l.verbs)
