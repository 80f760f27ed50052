use Rattle.std.proofs.Common.{length, length-set, ◌∙◌}
use Rattle.job_queue.specs.Desk.{writers_after}
use Rattle.job_queue.proofs.Loops.{known_later, written_more, written_end}
use Rattle.job_queue.proofs.queue.set_writer.Goals as goal

pub loop-buffer-preserved : goal.loop-buffer-preserved
loop-buffer-preserved c = record {
  size = length-set c.loop-buffer.writers _ c.args.job ∙ c.loop-buffer.invariant.size;
  known = known_later (length c.args.writers.now) c.args.writes.now c.loop-buffer.buffer-index c.loop-buffer-test.true c.loop-buffer.invariant.known;
  same = written_more c.loop-buffer.writers c.args.writes.now (writers_after c.args.writers.now c.args.writes.now c.args.job) c.loop-buffer.buffer-index c.args.job c.loop-buffer-test.true c.loop-buffer.invariant.same;
}

pub returns : goal.returns
returns c =
    written_end c.loop-buffer.writers c.args.writes.now (writers_after c.args.writers.now c.args.writes.now c.args.job) c.loop-buffer.buffer-index c.args.job c.loop-buffer-test.false c.loop-buffer.invariant.same
