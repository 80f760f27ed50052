use Rattle.std.proofs.Common.{◌≡◌, ◌≤◌, ◌<◌, ◌==◌, ℕ, length, get_or, if◌then◌else◌}
use Rattle.overflow_slots.proofs.slots.free_all.Given as goal

abbrev pub invariant-loop-slot : goal.invariant-loop-slot
invariant-loop-slot l = record {
  size : length l.owners ≡ 32;
  done : (k : ℕ) → k < l.slot → get_or l.owners k 0 ≡ (if get_or l.initial.owners k 0 == l.owner then 0 else get_or l.initial.owners k 0);
  rest : (k : ℕ) → l.slot ≤ k → get_or l.owners k 0 ≡ get_or l.initial.owners k 0;
}
