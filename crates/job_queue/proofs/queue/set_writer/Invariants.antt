use Rattle.std.proofs.Common.{◌≡◌, drop, length, None}
use Rattle.job_queue.specs.{Past.first_unknown, Desk.writers_after}
use Rattle.job_queue.proofs.queue.set_writer.Given as goal

abbrev pub invariant-loop-buffer : goal.invariant-loop-buffer
invariant-loop-buffer l = record {
  size : length l.writers ≡ length l.initial.writers;
  known : first_unknown (length l.initial.writers) (drop l.buffer-index l.writes) ≡ None;
  same : writers_after l.writers (drop l.buffer-index l.writes) l.job ≡ writers_after l.initial.writers l.fn.writes l.job;
}
