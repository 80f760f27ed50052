use Rattle.std.proofs.{Common.sym, Common.◌∙◌, Common.arith, lemmas.Bool.Decides.nat_tests, Common.◌≤◌, Common.length}
use Rattle.script.specs.Lines.{lines_of}
use Rattle.script.proofs.Answered.{malformed_here, malformed_later, malformed_end}
use Rattle.script.proofs.replies.first_malformed.Goals as goal

pub returns-then-not-is_formed : goal.returns-then-not-is_formed
returns-then-not-is_formed g c =
    sym (malformed_here g.C.Clerk.formed (lines_of c.loop-rest.rest.now) (lines_of c.next_line-cut.result.rest.now) c.next_line-cut.result.first.now c.loop-rest.line
    c.next_line-cut.ensures.lines (sym c.is_formed.ensures ∙ c.if-not-is_formed.true)) ∙ c.loop-rest.invariant.same

pub loop-rest-preserved : goal.loop-rest-preserved
loop-rest-preserved g c = record {
  lines = omega (arith, c.next_line-cut.ensures.shorter, c.loop-rest.invariant.lines);
  same = malformed_later g.C.Clerk.formed (lines_of c.loop-rest.rest.now) (lines_of c.next_line-cut.result.rest.now) c.next_line-cut.result.first.now c.loop-rest.line
      c.next_line-cut.ensures.lines (sym c.is_formed.ensures ∙ c.if-not-is_formed.false) ∙ c.loop-rest.invariant.same;
}

pub returns : goal.returns
returns g c =
    let none : length c.loop-rest.rest.now ≤ 0 = grind (arith, nat_tests, c.is_empty.ensures, c.loop-rest-test.false) in
    sym (malformed_end g.C.Clerk.formed c.loop-rest.rest.now c.loop-rest.line none) ∙ c.loop-rest.invariant.same
