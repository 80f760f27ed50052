use Rattle.std.proofs.Common.{◌≡◌, ◌<◌, ℕ, false}
use Rattle.shader_flow.specs.Flow.{word}
use Rattle.strict_rules.specs.Words.{uses_tile}
use Rattle.strict_rules.proofs.parts.has_tile_part.Given as goal

abbrev pub invariant-loop-at : goal.invariant-loop-at
invariant-loop-at l = (k : ℕ) → k < l.at → uses_tile (word l.code k) ≡ false
