use Rattle.memchr.specs.Find.{Nowhere, Passes, is_byte}
use Rattle.script.proofs.lines.find_near.Given as goal

abbrev pub invariant-loop-at : goal.invariant-loop-at
invariant-loop-at l = Nowhere (Passes (is_byte l.mark) l.bytes) 0 l.at
