-- The bytes of the words so far.
use Rattle.std.proofs.Common.{◌≡◌, ◌++◌, take}
use Rattle.std.specs.{List.flat_map, Int.to_le_bytes, Int.w64}
use Rattle.job_make.proofs.blocks.put_words.Given as goal

abbrev pub invariant-loop-word : goal.invariant-loop-word
invariant-loop-word l = l.out.items ≡ l.fn.out.items ++ flat_map (to_le_bytes w64) (take l.word-index l.words)
