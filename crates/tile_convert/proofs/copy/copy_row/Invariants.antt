use Rattle.std.proofs.Common.{ℕ, ◌*◌, List, min}
use Rattle.texture_layouts.specs.Surface.{microtile_width_of}
use Rattle.tile_convert.specs.Steps.{IsCopied}
use Rattle.tile_convert.proofs.copy.copy_row.Given as goal

abbrev pub invariant-loop-mx : goal.invariant-loop-mx
invariant-loop-mx l =
    (old : List ℕ) → IsCopied l.r.from l.r.to l.r.width l.r.cpp l.source old l.initial.target 0 l.y
    → IsCopied l.r.from l.r.to l.r.width l.r.cpp l.source old l.target (min (l.mx * microtile_width_of l.r.cpp) l.r.width) l.y
