-- Those so far.
use Rattle.std.proofs.Common.{◌≡◌, map, take}
use Rattle.commands.specs.Line.{texts}
use Rattle.vc4check_web.specs.Call.{word_text}
use Rattle.vc4check_web.proofs.word.words_of.Given as goal

abbrev pub invariant-loop-word : goal.invariant-loop-word
invariant-loop-word l = texts l.words.items ≡ map word_text (take l.word-index l.given)
