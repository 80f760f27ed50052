-- What the run leaves is reported.
use Rattle.std.proofs.{Common.◌≢◌, Common.sym, Common.ap, Common.arith, Common.◌∙◌, lemmas.Bool.Decides.nat_tests}
use Rattle.vc4check_web.proofs.Reports.{never_failed, reported}
use Rattle.vc4check_web.proofs.call.answer.Goals as goal

pub returns-clause-report : goal.returns-clause-report
returns-clause-report c =
    let run = c.run_with_cause-status in
    let empty = ap (λ s. s.held) c.new-sink.ensures in
    let four : run.result.status ≢ 4 = grind (arith, nat_tests, c.if-status-eq4.false) in
    let five : run.result.status ≢ 5 = grind (arith, nat_tests, c.if-status-eq5.false) in
    rw (sym c.in_ok-words.ensures, sym c.in_ok-source.ensures, c.into_bytes.ensures)
    (reported _ _ run.new.source _ _ run.result.status run.result.cause empty run.ensures.run.ends.statuses (never_failed _ run.ensures.run.ends.read.rose)
    four five run.ensures.run.ends.words (λ more. ap (λ s. s.held) (run.ensures.run.ends.nothing more four) ∙ empty)
    run.ensures.run.served run.ensures.run.made run.ensures.run.said run.ensures.cause run.ensures.wrong run.ensures.quiet)
