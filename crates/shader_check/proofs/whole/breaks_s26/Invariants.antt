use Rattle.std.proofs.Common.{◌≡◌, ◌<◌, ℕ, false}
use Rattle.shader_flow.specs.Flow.{word}
use Rattle.shader_check.specs.Rules.{uses_upper}
use Rattle.shader_check.proofs.whole.breaks_s26.Given as goal

abbrev pub invariant-loop-at : goal.invariant-loop-at
invariant-loop-at l = (k : ℕ) → k < l.at → uses_upper (word l.code k) ≡ false
