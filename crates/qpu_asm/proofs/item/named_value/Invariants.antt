use Rattle.std.proofs.Common.{◌≡◌, map, length}
use Rattle.qpu_asm.specs.{Items.find_named, Seen.named_seen}
use Rattle.qpu_asm.proofs.item.named_value.Given as goal

abbrev pub invariant-loop-one : goal.invariant-loop-one
invariant-loop-one l = find_named (map named_seen l.rest) l.text ≡ find_named (map named_seen l.fn.named) l.text

abbrev pub decreases-loop-one : goal.decreases-loop-one
decreases-loop-one l = length l.rest
