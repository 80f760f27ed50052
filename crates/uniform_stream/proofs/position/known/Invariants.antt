use Rattle.std.proofs.Common.{◌≡◌, ◌<◌, ◌-◌}
use Rattle.uniform_stream.specs.Stream.{is_known}
use Rattle.uniform_stream.proofs.position.known.Given as goal

abbrev pub invariant-loop-i : goal.invariant-loop-i
invariant-loop-i l = 0 < l.i → l.now ≡ is_known l.code (l.i - 1)
