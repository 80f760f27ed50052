use Rattle.std.proofs.Common.{arith}
use Rattle.job_queue.specs.{Calls.fault_line, Past.none_yet, Text.replies}
use Rattle.job_queue.proofs.replies.script.Goals as goal

pub returns-clause-answers : goal.returns-clause-answers
unfolding fault_line replies
returns-clause-answers c = grind (arith, c.answer.ensures.formed, c.answer.ensures.answers (none_yet c.args.buffers) (c.in_ok-queue.ensures, omega arith))
