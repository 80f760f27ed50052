use Rattle.std.proofs.Common.{◌≡◌, ◌<◌, ℕ, false}
use Rattle.shader_flow.specs.Flow.{word}
use Rattle.strict_rules.specs.Words.{uses_vpm}
use Rattle.strict_rules.proofs.parts.has_vpm_part.Given as goal

abbrev pub invariant-loop-at : goal.invariant-loop-at
invariant-loop-at l = (k : ℕ) → k < l.at → uses_vpm (word l.code k) ≡ false
