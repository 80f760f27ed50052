use Rattle.std.proofs.Common.{◌≡◌}
use Rattle.arrayvec.specs.ArrayVec.{array_vec_len}
use Rattle.machine_plan.specs.Memory.{bytes_at}
use Rattle.machine_plan.proofs.bytes.read_bytes.Given as goal

abbrev pub invariant-loop-i : goal.invariant-loop-i
invariant-loop-i l = record {
  value : l.bytes.items ≡ bytes_at l.memory l.place l.i;
  long : array_vec_len l.bytes ≡ l.i;
}
