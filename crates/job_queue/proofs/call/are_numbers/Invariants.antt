use Rattle.std.proofs.Common.{◌≡◌, length}
use Rattle.job_queue.specs.Calls.{are_all_numbers, are_numbers, parts_of}
use Rattle.job_queue.proofs.call.are_numbers.Given as goal

abbrev pub invariant-loop-rest : goal.invariant-loop-rest
invariant-loop-rest l = are_all_numbers (parts_of l.rest) ≡ are_numbers l.fn.word

abbrev pub decreases-loop-rest : goal.decreases-loop-rest
decreases-loop-rest l = length l.rest
