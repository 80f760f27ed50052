-- Those of the numbers so far that are of the kind.
use Rattle.std.proofs.Common.{◌≡◌, ◌≤◌, length, take}
use Rattle.std.specs.Prelude.{filter}
use Rattle.replay.specs.Units.{is_of, unit_at}
use Rattle.replay.proofs.units.of_kind.Given as goal

abbrev pub invariant-loop-n : goal.invariant-loop-n
invariant-loop-n l = record {
  value : l.few.items ≡ filter (λ n. is_of l.kind (unit_at n)) (take l.n-index l.units);
  few : length l.few.items ≤ l.n-index;
}
