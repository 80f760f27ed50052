use Rattle.std.proofs.Common.{sym, ◌∙◌, arith}
use Rattle.job_make.proofs.WordSteps.{word_cut, word_whole}
use Rattle.job_make.proofs.words.next_word.Goals as goal

pub returns-then-is_blank-clause-words : goal.returns-then-is_blank-clause-words
returns-then-is_blank-clause-words c =
    word_cut c.args.text.now c.loop-at.at (omega arith) c.loop-at.invariant (sym c.is_blank.ensures ∙ c.if-is_blank.true)

pub returns-clause-words : goal.returns-clause-words
returns-clause-words c = word_whole c.args.text.now c.requires (λ k h. c.loop-at.invariant k (omega arith))
