use Rattle.std.proofs.Common.{◌≡◌, ◌≤◌, length, take, ◌-◌}
use Rattle.std.specs.Io.KnownBytes.{Appends}
use Rattle.job_io.proofs.whole.write_all.Given as goal

abbrev pub invariant-loop-at : goal.invariant-loop-at
invariant-loop-at g l = record {
  within : l.at ≤ length l.part;
  written : Appends (g.K.Sink.held l.initial.sink) (g.K.Sink.held l.sink) (take l.at l.part);
  steady : g.K.Sink.faults l.sink ≡ g.K.Sink.faults l.initial.sink;
  nothing : length l.part ≡ 0 → l.sink ≡ l.initial.sink;
}

abbrev pub decreases-loop-at : goal.decreases-loop-at
decreases-loop-at g l = length l.part - l.at
