-- The instruction is read, and then obeyed.
use Rattle.std.proofs.Common.{refl, arith}
use Rattle.qpu_machine.proofs.{Near.ends_near, Shown.thread_shows}
use Rattle.qpu_machine.proofs.step.step_thread.Goals as goal

pub returns-clause-shows : goal.returns-clause-shows
returns-clause-shows g c =
    thread_shows c.args.reader.now.who c.args.thread.now c.instruction_at-word.result (g.C.Choices.listed c.args.words.now) c.args.reader.now.memory.now _ c.args.accesses.now.items _ _ _
    refl c.instruction_at-word.ensures c.list_access.ensures.items c.obey.ensures.shows

pub returns-clause-near : goal.returns-clause-near
returns-clause-near g c =
    ends_near c.args.thread.now c.args.reader.now.memory.now c.instruction_at-word.result c.obey.new.thread.place c.obey.result c.instruction_at-word.ensures (omega arith) c.obey.ensures.near
