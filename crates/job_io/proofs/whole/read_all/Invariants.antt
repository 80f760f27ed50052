use Rattle.std.proofs.Common.{◌≡◌, ◌≤◌, vec_len, ◌-◌}
use Rattle.std.specs.Io.KnownBytes.{Consumes}
use Rattle.job_io.proofs.whole.read_all.Given as goal

abbrev pub invariant-reading : goal.invariant-reading
invariant-reading g l = record {
  within : vec_len l.bytes ≤ l.limit;
  taken : Consumes (g.S.Source.left l.initial.source) (g.S.Source.left l.source) l.bytes.items;
  steady : g.S.Source.faults l.source ≡ g.S.Source.faults l.initial.source;
}

abbrev pub decreases-reading : goal.decreases-reading
decreases-reading g l = l.limit - vec_len l.bytes
