use Rattle.std.proofs.Common.{◌≡◌, ◌++◌}
use Rattle.pictures.specs.Forest.{forest_text}
use Rattle.pictures.specs.{Parts.each, Memory.tone_part}
use Rattle.pictures.proofs.memory.push_tones.Given as goal

abbrev pub invariant-loop-tone : goal.invariant-loop-tone
invariant-loop-tone l = l.out.items ≡ l.fn.out.items ++ forest_text (each (tone_part l.y l.kind) l.tone)
