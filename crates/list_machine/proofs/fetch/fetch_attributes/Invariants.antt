use Rattle.std.proofs.Common.{◌≤◌, ◌+◌, ◌*◌}
use Rattle.arrayvec.specs.ArrayVec.{array_vec_len}
use Rattle.list_machine.proofs.Fetching.{AttributesLeft}
use Rattle.list_machine.proofs.fetch.fetch_attributes.Given as goal

abbrev pub invariant-loop-t : goal.invariant-loop-t
invariant-loop-t l = record {
  left : AttributesLeft l.reader.who l.vertex.word l.vertex.index l.reader.memory.now l.initial.accesses.items l.accesses.items l.t;
  long : array_vec_len l.accesses ≤ array_vec_len l.initial.accesses + 3 * l.t;
}
