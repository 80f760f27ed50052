use Rattle.std.proofs.Common.{true, false, sym, ◌∙◌}
use Rattle.job_text.proofs.Taking.{uniform_is}
use Rattle.job_text.proofs.code.uniform_of.Goals as goal

pub returns-then-takes_now : goal.returns-then-takes_now
returns-then-takes_now c = λ code i below here taking.
    uniform_is code i c.args.word c.args.now true (sym c.takes_now.ensures ∙ c.if-takes_now.true) below here taking

pub returns-else-takes_now : goal.returns-else-takes_now
returns-else-takes_now c = λ code i below here taking.
    uniform_is code i c.args.word c.args.now false (sym c.takes_now.ensures ∙ c.if-takes_now.false) below here taking
