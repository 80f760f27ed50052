use Rattle.std.proofs.Common.{◌≡◌, ◌++◌}
use Rattle.pictures.specs.Forest.{forest_text}
use Rattle.pictures.specs.{Parts.each, Memory.place_part}
use Rattle.pictures.proofs.memory.push_places.Given as goal

abbrev pub invariant-loop-n : goal.invariant-loop-n
invariant-loop-n l = l.out.items ≡ l.fn.out.items ++ forest_text (each (place_part l.y l.memory) l.n)
