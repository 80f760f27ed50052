use Rattle.std.proofs.Common.{◌≡◌, ◌<◌, ℕ, false}
use Rattle.uniform_stream.specs.Stream.{leaves_open}
use Rattle.uniform_stream.proofs.walk.is_open.Given as goal

abbrev pub invariant-loop-at : goal.invariant-loop-at
invariant-loop-at l = (k : ℕ) → k < l.at → leaves_open l.code k ≡ false
