use Rattle.std.proofs.Common.{◌≡◌, ◌≤◌, take}
use Rattle.std.specs.List.{fold}
use Rattle.replay.specs.Trace.{empty_line, with_access, line_closed, IsOpen}
use Rattle.replay.proofs.trace.line_of.Given as goal

abbrev pub invariant-loop-access : goal.invariant-loop-access
invariant-loop-access l = record {
  value : line_closed l.line ≡ fold with_access (empty_line l.fn.unit l.job) (take l.access-index l.accesses);
  opened : IsOpen l.line;
  reads : l.line.reads ≤ l.access-index;
  writes : l.line.writes ≤ l.access-index;
}
