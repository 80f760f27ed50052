use Rattle.std.proofs.Common.{◌≡◌, ◌+◌, ◌-◌}
use Rattle.machine_plan.specs.Memory.{bytes_stored}
use Rattle.list_machine.specs.Store.{bytes_chosen}
use Rattle.list_machine.proofs.parts.store_chosen.Given as goal

abbrev pub invariant-loop-i : goal.invariant-loop-i
invariant-loop-i g l =
    bytes_stored l.memory (l.place + l.i) (bytes_chosen (g.C.Choices.listed l.words) (l.from + l.i) (l.size - l.i)) ≡ bytes_stored l.initial.memory l.place (bytes_chosen (g.C.Choices.listed l.words) l.from l.size)
