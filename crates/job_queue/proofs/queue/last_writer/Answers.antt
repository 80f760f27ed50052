use Rattle.std.proofs.Common.{length, arith}
use Rattle.job_queue.specs.Desk.{greatest}
use Rattle.job_queue.proofs.Loops.{known_later, greatest_more}
use Rattle.job_queue.proofs.queue.last_writer.Goals.{then-writer-last, else-writer-last}
use Rattle.job_queue.proofs.queue.last_writer.Goals as goal

pub loop-buffer-preserved : goal.loop-buffer-preserved
loop-buffer-preserved c = record {
  known = known_later (length c.args.writers.now) c.args.reads.now c.loop-buffer.buffer-index c.loop-buffer-test.true c.loop-buffer.invariant.known;
  same = greatest_more c.args.writers.now c.args.reads.now c.loop-buffer.buffer-index c.loop-buffer.last c.if-writer-last.last (greatest c.args.writers.now 0 c.args.reads.now)
      c.loop-buffer-test.true (elim c.if-writer-last.branch [ then-writer-last w ↦ omega (arith, w.if-writer-last, w.last-is) | else-writer-last w ↦ omega (arith, w.if-writer-last, w.last-is) ]) c.loop-buffer.invariant.same;
}
