use Rattle.std.proofs.Common.{◌≡◌, ◌+◌, ◌-◌}
use Rattle.machine_plan.specs.Memory.{bytes_stored}
use Rattle.list_machine.specs.Blocks.{zeros}
use Rattle.list_machine.proofs.blocks.write_zeros.Given as goal

abbrev pub invariant-loop-i : goal.invariant-loop-i
invariant-loop-i l =
    bytes_stored l.memory (l.place + l.i) (zeros (l.len - l.i)) ≡ bytes_stored l.initial.memory l.place (zeros l.len)
