-- Parts so far begin no later, so the part goes among those that are left.
use Rattle.std.proofs.Common.{◌≡◌, ◌≤◌, ◌-◌, ◌++◌, length, take, drop, ℕ, List}
use Rattle.dumper.specs.{Parts.part_at, Parts.part_inserted, Spans.parts_of}
use Rattle.dumper.proofs.span.place_among.Given as goal

abbrev pub invariant-loop-at : goal.invariant-loop-at
invariant-loop-at l = record {
  upto : l.at ≤ length l.spans.items;
  place : (bytes : List ℕ) → part_inserted (part_at l.place bytes) (parts_of l.spans.items)
      ≡ take l.at (parts_of l.spans.items) ++ part_inserted (part_at l.place bytes) (drop l.at (parts_of l.spans.items));
}

abbrev pub decreases-loop-at : goal.decreases-loop-at
decreases-loop-at l = length l.spans.items - l.at
