use Rattle.std.proofs.Common.{arith}
use Rattle.overflow_slots.specs.{Calls.fault_line, SlotRun.start, Text.replies}
use Rattle.overflow_slots.proofs.replies.script.Goals as goal

pub returns-clause-answers : goal.returns-clause-answers
unfolding fault_line replies
returns-clause-answers c = grind (arith, c.answer.ensures.formed, c.answer.ensures.answers (start c.args.slots) c.new-pool.ensures)
