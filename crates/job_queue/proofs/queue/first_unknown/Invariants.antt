use Rattle.std.proofs.Common.{◌≡◌, drop}
use Rattle.job_queue.specs.Past.{first_unknown}
use Rattle.job_queue.proofs.queue.first_unknown.Given as goal

abbrev pub invariant-loop-number : goal.invariant-loop-number
invariant-loop-number l = first_unknown l.buffers (drop l.number-index l.numbers) ≡ first_unknown l.fn.buffers l.fn.numbers
