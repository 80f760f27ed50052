use Rattle.std.proofs.{Common.arith, lemmas.Bool.Decides.nat_tests}
use Rattle.qpu_asm.proofs.Words.{word_first, words_empty}
use Rattle.qpu_asm.proofs.lines.next_word.Goals as goal

pub returns-then-is_empty-clause-words : goal.returns-then-is_empty-clause-words
returns-then-is_empty-clause-words c =
    words_empty c.args.line.now c.without_spaces-line.result.now _ (c.without_spaces-line.ensures.words 0) (grind (arith, nat_tests, c.is_empty.ensures, c.if-is_empty.true))

pub returns-else-is_empty-clause-words : goal.returns-else-is_empty-clause-words
returns-else-is_empty-clause-words c =
    word_first c.args.line.now c.without_spaces-line.result.now _ _ _ (c.without_spaces-line.ensures.words 0)
    (grind (arith, nat_tests, c.is_empty.ensures, c.if-is_empty.false)) c.without_spaces-line.ensures.first c.cut_at.ensures.first c.cut_at.ensures.rest
