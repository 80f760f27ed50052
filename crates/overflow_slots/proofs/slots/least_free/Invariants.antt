use Rattle.std.proofs.Common.{◌≡◌, ◌-◌, ◌==◌, get_or}
use Rattle.overflow_slots.specs.Search.{first_where}
use Rattle.overflow_slots.proofs.slots.least_free.Given as goal

abbrev pub invariant-loop-slot : goal.invariant-loop-slot
invariant-loop-slot l =
    first_where (λ slot. get_or l.owners slot 0 == 0) l.slot (l.slots - l.slot) ≡ first_where (λ slot. get_or l.owners slot 0 == 0) 0 l.slots
