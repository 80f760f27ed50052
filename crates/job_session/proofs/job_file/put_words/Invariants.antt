-- The words so far.
use Rattle.std.proofs.Common.{◌≡◌, ◌++◌, take}
use Rattle.std.specs.List.{flat_map}
use Rattle.field_words.specs.WordBytes.{word}
use Rattle.job_session.proofs.job_file.put_words.Given as goal

abbrev pub invariant-loop-number : goal.invariant-loop-number
invariant-loop-number l = l.file.items ≡ l.fn.file.items ++ flat_map word (take l.number-index l.words)
