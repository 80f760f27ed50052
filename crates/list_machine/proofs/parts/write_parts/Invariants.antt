use Rattle.std.proofs.Common.{◌≡◌, ◌+◌, ◌-◌}
use Rattle.arrayvec.specs.ArrayVec.{array_vec_len}
use Rattle.list_machine.specs.{Cover.part_count, Lists.Lists}
use Rattle.list_machine.proofs.Left.{WritesLeft}
use Rattle.list_machine.proofs.parts.write_parts.Given as goal

abbrev pub invariant-loop-i : goal.invariant-loop-i
invariant-loop-i g l = record {
  left : (r : Lists) → WritesLeft l.turn.who l.cover (g.C.Choices.listed l.turn.words.now) r l.initial.memory l.memory l.initial.accesses.items l.accesses.items (part_count l.cover) l.i (part_count l.cover - l.i);
  long : array_vec_len l.accesses ≡ array_vec_len l.initial.accesses + l.i;
}
