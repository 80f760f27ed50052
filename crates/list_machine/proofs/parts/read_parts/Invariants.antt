use Rattle.std.proofs.Common.{◌≡◌, ◌+◌, ◌-◌, ℕ, List}
use Rattle.arrayvec.specs.ArrayVec.{array_vec_len}
use Rattle.list_machine.specs.{Cover.part_count, Lists.Lists}
use Rattle.list_machine.proofs.Left.{ReadsLeft}
use Rattle.list_machine.proofs.parts.read_parts.Given as goal

abbrev pub invariant-loop-i : goal.invariant-loop-i
invariant-loop-i l = record {
  left : (m : List ℕ) (r : Lists) → ReadsLeft l.who l.cover r m l.initial.accesses.items l.accesses.items (part_count l.cover) l.i (part_count l.cover - l.i);
  long : array_vec_len l.accesses ≡ array_vec_len l.initial.accesses + l.i;
}
