use Rattle.std.proofs.Common.{◌≡◌, ◌++◌, length}
use Rattle.job_queue.specs.Calls.{numbers_in, parts_of, buffers_of}
use Rattle.job_queue.proofs.call.put_numbers.Given as goal

abbrev pub invariant-loop-rest : goal.invariant-loop-rest
invariant-loop-rest l = l.numbers.items ++ numbers_in (parts_of l.rest) ≡ l.initial.numbers.items ++ buffers_of l.fn.word

abbrev pub decreases-loop-rest : goal.decreases-loop-rest
decreases-loop-rest l = length l.rest
