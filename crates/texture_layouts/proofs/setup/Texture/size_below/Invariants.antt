use Rattle.std.proofs.Common.{◌≡◌, ◌≤◌, ◌*◌}
use Rattle.texture_layouts.specs.Setup.{size_below}
use Rattle.texture_layouts.proofs.setup.Texture.size_below.Given as goal

abbrev pub invariant-loop-level : goal.invariant-loop-level
invariant-loop-level l = (l.below ≡ size_below l.self l.level) × (l.below ≤ 68719476735 * l.level)
