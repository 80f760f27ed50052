use Rattle.std.proofs.Common.{◌≡◌, ◌++◌}
use Rattle.pictures.specs.Forest.{forest_text}
use Rattle.pictures.specs.Parts.{each}
use Rattle.pictures.specs.Heat.{heat_at}
use Rattle.pictures.proofs.heat.push_heats.Given as goal

abbrev pub invariant-loop-n : goal.invariant-loop-n
invariant-loop-n l = l.out.items ≡ l.fn.out.items ++ forest_text (each (heat_at l.strip.class.now l.strip.x l.counts) l.n)
