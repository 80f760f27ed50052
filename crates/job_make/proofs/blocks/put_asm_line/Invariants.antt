-- The characters so far, with spaces for blanks.
use Rattle.std.proofs.Common.{◌≡◌, ◌++◌, map, take}
use Rattle.job_make.specs.Made.{with_spaces}
use Rattle.job_make.proofs.blocks.put_asm_line.Given as goal

abbrev pub invariant-loop-character : goal.invariant-loop-character
invariant-loop-character l = l.out.items ≡ l.fn.out.items ++ map with_spaces (take l.character-index l.front)
