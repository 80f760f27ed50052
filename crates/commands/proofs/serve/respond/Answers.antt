use Rattle.std.proofs.Common.{◌≡◌, ◌≢◌, true, arith, sym, ap, subst, ◌∙◌}
use Rattle.entry.specs.declared.Ended.{Ended}
use Rattle.commands.specs.{declared.cause.Cause.Cause, Answer.IsAnswer, Cause.IsCause, Cause.is_reported, Run.IsAnswered, Reply.reply_status, Reply.reply_text}
use Rattle.commands.proofs.Silent.{silent, off_5}
use Rattle.commands.proofs.serve.respond.Goals as goal

pub returns-clause-answered : goal.returns-clause-answered
returns-clause-answered g c = λ low.
    let same : c.ended.result.status ≡ c.print.result = c.ended.ensures.status in
    let wrote : c.print.result ≢ 4 = λ e. omega (arith, e, low, same) in
    subst (λ status. IsAnswered (IsAnswer c.args.command c.args.bytes.now) status (g.K.Sink.held c.args.sink.now) (g.K.Sink.held c.print.new.sink))
    (sym (same ∙ c.print.ensures.status wrote)) (reply_text c.in-Ok.answer, c.in-Ok.ensures.answers, c.print.ensures.written wrote)

pub returns-clause-cut : goal.returns-clause-cut
returns-clause-cut g c = λ cut.
    (reply_status c.in-Ok.answer, reply_text c.in-Ok.answer, c.in-Ok.ensures.answers, c.print.ensures.cut (sym c.ended.ensures.status ∙ cut))

pub returns-clause-cause : goal.returns-clause-cause
returns-clause-cause g c = λ one.
    let on = subst (λ status. is_reported c.args.command status ≡ true) c.ended.ensures.status one in
    subst (λ cause. IsCause c.args.command c.args.bytes.now cause) (sym (c.ended.ensures.report on ∙ c.cause-why.ensures)) c.in-Ok.ensures.cause

pub returns-in_default-clause-cause : goal.returns-in_default-clause-cause
returns-in_default-clause-cause g c = λ on.
    absurd (silent c.args.command 5 c.silent.result.status (off_5 c.args.command) (ap (λ (ended : Ended Cause). ended.status) c.silent.ensures) on)
