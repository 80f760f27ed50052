use Rattle.std.proofs.Common.{◌≡◌, map, length}
use Rattle.qpu_asm.specs.{Printed.name_of as name_in, Seen.named_seen}
use Rattle.qpu_asm.proofs.disassembler.name_of.Given as goal

abbrev pub invariant-loop-one : goal.invariant-loop-one
invariant-loop-one l = name_in (map named_seen l.rest) l.value ≡ name_in (map named_seen l.fn.named) l.value

abbrev pub decreases-loop-one : goal.decreases-loop-one
decreases-loop-one l = length l.rest
