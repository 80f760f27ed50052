use Rattle.std.proofs.{Common.◌≤◌, Common.length, Common.string_bytes, Common.arith, lemmas.Bool.Decides.nat_tests}
use Rattle.script.proofs.Answered.{answered_more, answered_all}
use Rattle.script.proofs.replies.answer.Goals as goal

pub loop-rest-preserved : goal.loop-rest-preserved
loop-rest-preserved g c start begins =
    let done = c.loop-rest.invariant start begins in
    answered_more g.C.Clerk.Past (λ lines past. g.C.Clerk.Stands lines past c.loop-rest.clerk) (λ lines past. g.C.Clerk.Stands lines past c.put_reply.new.self) g.C.Clerk.reply g.C.Clerk.after start
    c.args.text.now (string_bytes c.loop-rest.out) (string_bytes c.put_reply.new.out) c.loop-rest.rest.now c.next_line-cut.result.rest.now c.next_line-cut.result.first.now
    done c.next_line-cut.ensures.lines (omega (arith, c.next_line-cut.ensures.shorter))
    (c.in_ok-put_reply.ensures.line done.lines done.past done.stands) (c.in_ok-put_reply.ensures.kept done.lines done.past done.stands)

pub returns-clause-answers : goal.returns-clause-answers
returns-clause-answers g c start begins =
    let none : length c.loop-rest.rest.now ≤ 0 = grind (arith, nat_tests, c.is_empty.ensures, c.loop-rest-test.false) in
    rw c.into_bytes.ensures.value (answered_all g.C.Clerk.Past (λ lines past. g.C.Clerk.Stands lines past c.loop-rest.clerk) g.C.Clerk.reply g.C.Clerk.after start
    c.args.text.now (string_bytes c.loop-rest.out) c.loop-rest.rest.now none (c.loop-rest.invariant start begins))
