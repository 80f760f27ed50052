-- The binner, the renderer and the units of the processors so far are asked.
use Rattle.std.proofs.Common.{◌≡◌, ◌≤◌, ◌+◌, ◌*◌, length}
use Rattle.replay.specs.Units.{enabled_below}
use Rattle.replay.proofs.units.enabled_units.Given as goal

abbrev pub invariant-loop-q : goal.invariant-loop-q
invariant-loop-q l = record {
  value : l.units.items ≡ enabled_below l.machine (3 * l.q + 2);
  few : length l.units.items ≤ 3 * l.q + 2;
}
