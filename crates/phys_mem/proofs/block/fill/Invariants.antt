-- So many zeros stand in the room, which is where it was.
use Rattle.std.proofs.Common.{◌≡◌, replicate}
use Rattle.phys_mem.proofs.block.fill.Given as goal

abbrev pub invariant-loop : goal.invariant-loop
invariant-loop l =
    record {
      zeros : l.bytes.items ≡ replicate l.counter 0;
      room : l.bytes.cap ≡ l.fn.bytes.cap;
      place : l.bytes.ptr ≡ l.fn.bytes.ptr;
    }
