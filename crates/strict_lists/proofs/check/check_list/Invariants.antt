use Rattle.std.proofs.Common.{length}
use Rattle.strict_lists.specs.Walk.{IsUnderway}
use Rattle.strict_lists.proofs.check.check_list.Given as goal

abbrev pub invariant-loop-rest : goal.invariant-loop-rest
invariant-loop-rest l = IsUnderway l.fn.list l.rest l.course

abbrev pub decreases-loop-rest : goal.decreases-loop-rest
decreases-loop-rest l = length l.rest
