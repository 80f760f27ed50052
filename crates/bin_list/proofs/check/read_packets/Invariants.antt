use Rattle.std.proofs.Common.{length}
use Rattle.bin_list.proofs.Walk.{IsUnderway}
use Rattle.bin_list.proofs.check.read_packets.Given as goal

abbrev pub invariant-loop-rest : goal.invariant-loop-rest
invariant-loop-rest l =
    IsUnderway l.given l.layout l.fn.list l.fn.out l.rest l.seen l.end l.out l.states.done.items l.states.current

abbrev pub decreases-loop-rest : goal.decreases-loop-rest
decreases-loop-rest l = length l.rest
