-- The rules up to this number.
use Rattle.std.proofs.Common.{◌≡◌, ◌≤◌, ◌-◌}
use Rattle.commands.specs.Topics.{rows_upto}
use Rattle.commands.proofs.explain.family_rows.Given as goal

abbrev pub invariant-loop-number : goal.invariant-loop-number
invariant-loop-number l = record {
  rows : l.text.items ≡ rows_upto l.family l.number;
  upto : l.number ≤ 255;
}

abbrev pub decreases-loop-number : goal.decreases-loop-number
decreases-loop-number l = 255 - l.number
