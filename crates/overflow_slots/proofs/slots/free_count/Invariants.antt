use Rattle.std.proofs.Common.{◌≡◌, ◌≤◌, ◌==◌, get_or}
use Rattle.overflow_slots.specs.Search.{count_where}
use Rattle.overflow_slots.proofs.slots.free_count.Given as goal

abbrev pub invariant-loop-slot : goal.invariant-loop-slot
invariant-loop-slot l = record {
  low : l.count ≤ l.slot;
  count : l.count ≡ count_where (λ slot. get_or l.owners slot 0 == 0) l.slot;
}
