use Rattle.std.proofs.{Common.sym, Common.◌∙◌, Common.arith, lemmas.Bool.Decides.nat_tests}
use Rattle.qpu_asm.proofs.Placing.{line_short, line_none}
use Rattle.qpu_asm.proofs.place.line_at.Goals as goal

pub returns-then-left-eq0-clause-shorter : goal.returns-then-left-eq0-clause-shorter
returns-then-left-eq0-clause-shorter c =
    let short = line_short c.loop-rest.rest.now _ _ c.next_line-cut.ensures.lines in
    omega (arith, short, c.loop-rest.invariant.1)

pub returns-clause-line : goal.returns-clause-line
returns-clause-line c =
    sym (sym c.loop-rest.invariant.0 ∙ line_none c.loop-rest.rest.now c.loop-rest.left (grind (arith, nat_tests, c.is_empty.ensures, c.loop-rest-test.false)))
