use Rattle.std.proofs.Common.{◌≡◌, drop}
use Rattle.qpu_machine.specs.Qpu.{slot_from}
use Rattle.qpu_machine.proofs.starting.slot_for.Given as goal

abbrev pub invariant-loop-i : goal.invariant-loop-i
invariant-loop-i l = slot_from l.threaded 0 l.qpus ≡ slot_from l.threaded l.i (drop l.i l.qpus)
