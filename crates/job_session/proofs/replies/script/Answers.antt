use Rattle.std.proofs.Common.{arith}
use Rattle.job_session.specs.{Calls.fault_line, Desk.empty, Text.replies}
use Rattle.job_session.proofs.replies.script.Goals as goal

pub returns-clause-answers : goal.returns-clause-answers
unfolding fault_line replies
returns-clause-answers c = grind (arith, c.answer.ensures.formed, c.answer.ensures.answers empty c.in_ok-session.ensures)
