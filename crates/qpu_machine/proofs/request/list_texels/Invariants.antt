use Rattle.std.proofs.Common.{◌≡◌, ◌+◌}
use Rattle.arrayvec.specs.ArrayVec.{array_vec_len}
use Rattle.qpu_machine.proofs.Asking.{TextureLeft}
use Rattle.qpu_machine.proofs.request.list_texels.Given as goal

abbrev pub invariant-loop-m : goal.invariant-loop-m
invariant-loop-m g l = record {
  left : TextureLeft l.reader.who l.texture (g.C.Choices.listed l.words) l.reader.memory.now l.initial.accesses.items l.accesses.items l.m;
  long : array_vec_len l.accesses ≡ array_vec_len l.initial.accesses + l.m;
}
