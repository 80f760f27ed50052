use Rattle.std.proofs.Common.{◌≡◌, replicate}
use Rattle.qpu_machine.specs.Qpu.{idle_qpu}
use Rattle.machine.proofs.job.idle_qpus.Given as goal

abbrev pub invariant-loop : goal.invariant-loop
invariant-loop l = l.qpus.items ≡ replicate l.counter idle_qpu
