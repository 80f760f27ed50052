use Rattle.std.proofs.Common.{ap}
use Rattle.entry.specs.declared.Ended.{Ended}
use Rattle.commands.specs.{declared.cause.Cause.Cause, Answer.IsAnswer, Cause.IsCause, Run.IsAnswered, Run.IsCut}
use Rattle.commands.proofs.Report.{report}
use Rattle.commands.proofs.Silent.{silent, off_3, off_5, off_6}
use Rattle.commands.proofs.serve.serve.Goals as goal

pub returns-in-Ok-clause-answered : goal.returns-in-Ok-clause-answered
returns-in-Ok-clause-answered g c = λ low.
    report _ _ _ (λ bytes. IsAnswered (IsAnswer c.args.command bytes) c.respond.result.status (g.K.Sink.held c.args.sink.now) (g.K.Sink.held c.respond.new.sink))
    c.deref.ensures.value c.in-Ok.ensures.whole (c.respond.ensures.answered low)

pub returns-in-Ok-clause-cut : goal.returns-in-Ok-clause-cut
returns-in-Ok-clause-cut g c = λ cut.
    report _ _ _ (λ bytes. IsCut (IsAnswer c.args.command bytes) (g.K.Sink.held c.args.sink.now) (g.K.Sink.held c.respond.new.sink))
    c.deref.ensures.value c.in-Ok.ensures.whole (c.respond.ensures.cut cut)

pub returns-in-Ok-clause-cause : goal.returns-in-Ok-clause-cause
returns-in-Ok-clause-cause g c = λ one.
    report _ _ _ (λ bytes. IsCause c.args.command bytes c.respond.result.cause) c.deref.ensures.value c.in-Ok.ensures.whole (c.respond.ensures.cause one)

pub returns-in-Err-ReadFault-clause-cause : goal.returns-in-Err-ReadFault-clause-cause
returns-in-Err-ReadFault-clause-cause g c = λ on.
    absurd (silent c.args.command 3 c.silent.result.status (off_3 c.args.command) (ap (λ (ended : Ended Cause). ended.status) c.silent.ensures) on)

pub returns-in-Err-TooLong-clause-cause : goal.returns-in-Err-TooLong-clause-cause
returns-in-Err-TooLong-clause-cause g c = λ on.
    absurd (silent c.args.command 6 c.silent-in-Err-TooLong.result.status (off_6 c.args.command) (ap (λ (ended : Ended Cause). ended.status) c.silent-in-Err-TooLong.ensures) on)

pub returns-in-Err-NoMemory-clause-cause : goal.returns-in-Err-NoMemory-clause-cause
returns-in-Err-NoMemory-clause-cause g c = λ on.
    absurd (silent c.args.command 5 c.silent-in-Err-NoMemory.result.status (off_5 c.args.command) (ap (λ (ended : Ended Cause). ended.status) c.silent-in-Err-NoMemory.ensures) on)
