use Rattle.std.proofs.Common.{◌≡◌, ◌≤◌, ◌+◌, length}
use Rattle.commands.specs.Names.{count_after}
use Rattle.commands.proofs.names.count_behind.Given as goal

abbrev pub invariant-loop-word : goal.invariant-loop-word
invariant-loop-word l = (count_after l.count l.rest ≡ count_after 0 l.fn.words) × (l.count + length l.rest ≤ length l.fn.words)

abbrev pub decreases-loop-word : goal.decreases-loop-word
decreases-loop-word l = length l.rest
