use Rattle.tile_convert.specs.Steps.{IsCopied}
use Rattle.tile_convert.proofs.copy.copy_rows.Given as goal

abbrev pub invariant-loop-y : goal.invariant-loop-y
invariant-loop-y l = IsCopied l.r.from l.r.to l.r.width l.r.cpp l.source l.initial.target l.target 0 l.y
