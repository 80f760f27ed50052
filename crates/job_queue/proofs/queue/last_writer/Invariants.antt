use Rattle.std.proofs.Common.{◌≡◌, drop, length, None}
use Rattle.job_queue.specs.{Past.first_unknown, Desk.greatest}
use Rattle.job_queue.proofs.queue.last_writer.Given as goal

abbrev pub invariant-loop-buffer : goal.invariant-loop-buffer
invariant-loop-buffer l = record {
  known : first_unknown (length l.writers) (drop l.buffer-index l.reads) ≡ None;
  same : greatest l.writers l.last (drop l.buffer-index l.reads) ≡ greatest l.fn.writers 0 l.fn.reads;
}
