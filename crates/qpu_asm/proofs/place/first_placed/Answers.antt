use Rattle.std.proofs.Common.{arith}
use Rattle.qpu_asm.proofs.Placing.{first_words, first_inside}
use Rattle.qpu_asm.proofs.place.first_placed.Goals as goal

pub returns-clause-words : goal.returns-clause-words
returns-clause-words c =
    first_words c.args.column _ c.args.line.now _ _ c.requires.some c.requires.word c.cut_at-cut.ensures.first c.cut_at-cut.ensures.rest c.min-taken.ensures

pub returns-clause-inside : goal.returns-clause-inside
returns-clause-inside c =
    let low = first_inside _ c.args.line.now _ _ c.cut_at-cut.ensures.first c.cut_at-cut.ensures.rest c.min-taken.ensures in
    omega (arith, low)
