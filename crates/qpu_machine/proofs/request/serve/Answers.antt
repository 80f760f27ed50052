-- The words of a direct request are handed on as its result.
use Rattle.std.proofs.Common.{sym, subst, Some, []}
use Rattle.machine_plan.specs.Plan.{Shows, outcome_of}
use Rattle.machine_plan.proofs.Worlds.{shows_mapped}
use Rattle.qpu_machine.specs.{State.Ask, Request.direct_plan, Request.ask_plan}
use Rattle.qpu_machine.proofs.request.serve.Goals as goal

pub returns-in-Direct : goal.returns-in-Direct
returns-in-Direct g c =
    subst (λ (ask : Ask). Shows (outcome_of c.args.reader.now.who (ask_plan ask (g.C.Choices.listed c.args.words.now)) c.args.reader.now.memory.now) c.args.accesses.now.items c.read_words.new.accesses.items c.args.reader.now.memory.now (Some (Some c.read_words.result))) (sym c.in-Direct.is)
    (shows_mapped Some c.args.reader.now.who (direct_plan c.in-Direct.row []) c.args.reader.now.memory.now c.args.accesses.now.items c.read_words.new.accesses.items c.args.reader.now.memory.now (Some c.read_words.result) c.read_words.ensures)
