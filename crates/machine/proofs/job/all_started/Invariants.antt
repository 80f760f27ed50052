use Rattle.std.proofs.Common.{◌≡◌, map, take}
use Rattle.machine.specs.State.{job_start}
use Rattle.machine.proofs.job.all_started.Given as goal

abbrev pub invariant-loop-start : goal.invariant-loop-start
invariant-loop-start l = l.jobs.items ≡ map job_start (take l.start-index l.starts)
