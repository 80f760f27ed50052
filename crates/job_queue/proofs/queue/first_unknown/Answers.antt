use Rattle.job_queue.specs.Past.{first_unknown}
use Rattle.job_queue.proofs.Loops.{unknown_here}
use Rattle.job_queue.proofs.queue.first_unknown.Goals as goal

pub returns-then-number-buffers : goal.returns-then-number-buffers
returns-then-number-buffers c =
    unknown_here c.args.buffers c.args.numbers.now c.loop-number.number-index (first_unknown c.args.buffers c.args.numbers.now) c.loop-number-test.true c.if-number-buffers.true c.loop-number.invariant
