use Rattle.std.proofs.{Common.sym, Common.◌∙◌, Common.arith, lemmas.Bool.Decides.nat_tests}
use Rattle.qpu_asm.proofs.Words.{placed_none}
use Rattle.qpu_asm.proofs.place.next_placed.Goals as goal

pub returns-then-is_empty-clause-words : goal.returns-then-is_empty-clause-words
returns-then-is_empty-clause-words c =
    sym (c.without_spaces-start.ensures.words c.args.column)
    ∙ placed_none _ c.without_spaces-start.result.now (grind (arith, nat_tests, c.is_empty.ensures, c.if-is_empty.true))

pub returns-clause-words : goal.returns-clause-words
returns-clause-words c = sym (c.without_spaces-start.ensures.words c.args.column) ∙ c.first_placed.ensures.words
