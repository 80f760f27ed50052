use Rattle.job_queue.proofs.Desks.{new_agrees}
use Rattle.job_queue.proofs.queue.Queue.new.Goals as goal

pub returns : goal.returns
returns c = rw (c.in_ok-writers.ensures.items_if_clones_equal (λ y e. e)) (new_agrees c.args.buffers c.in_ok-waits.waits.items)
