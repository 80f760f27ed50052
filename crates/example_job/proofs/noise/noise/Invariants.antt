use Rattle.std.proofs.Common.{◌≡◌, ◌++◌, ◌-◌}
use Rattle.example_job.specs.Noise.{noise}
use Rattle.example_job.proofs.noise.noise.Given as goal

abbrev pub invariant-loop : goal.invariant-loop
invariant-loop l = l.bytes.items ++ noise l.state (l.fn.len - l.counter) ≡ noise l.fn.seed l.fn.len
