use Rattle.std.proofs.Common.{◌≡◌, ◌++◌}
use Rattle.pictures.specs.Forest.{forest_text}
use Rattle.pictures.specs.Parts.{each}
use Rattle.pictures.specs.Heat.{tone_part}
use Rattle.pictures.proofs.heat.push_tones.Given as goal

abbrev pub invariant-loop-n : goal.invariant-loop-n
invariant-loop-n l = l.out.items ≡ l.fn.out.items ++ forest_text (each tone_part l.n)
