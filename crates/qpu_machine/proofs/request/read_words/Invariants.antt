use Rattle.std.proofs.Common.{◌≡◌, ◌+◌, length}
use Rattle.arrayvec.specs.ArrayVec.{array_vec_len}
use Rattle.qpu_machine.proofs.Asking.{DirectLeft}
use Rattle.qpu_machine.proofs.request.read_words.Given as goal

abbrev pub invariant-loop-e : goal.invariant-loop-e
invariant-loop-e l = record {
  left : DirectLeft l.reader.who l.row l.found l.reader.memory.now l.initial.accesses.items l.accesses.items l.e;
  size : length l.found ≡ 16;
  long : array_vec_len l.accesses ≡ array_vec_len l.initial.accesses + l.e;
}
