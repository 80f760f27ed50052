-- A step of the active thread, and what becomes of its processor.
use Rattle.std.proofs.Common.{◌∙◌, sym, subst}
use Rattle.machine_plan.specs.Turn.{CarriesOver, if_tame}
use Rattle.qpu_machine.specs.Qpu.{qpu_plan}
use Rattle.qpu_machine.proofs.Settling.{Stepped, stepped, settle_room, settle_bounded, settle_shows, settle_wild}
use Rattle.qpu_machine.proofs.settle.step_qpu.Goals as goal

steps : (g : _) (c : goal.After-settle-arg-1 g) → Stepped c.args.reader.now.who (g.C.Choices.listed c.args.words.now) c.args.reader.now.memory.now c.args.accesses.now c.step_active-left.new.accesses c.args.qpu.now c.step_active-left.new.qpu c.qpu_job-job.result c.step_active-left.result
steps g c =
    stepped c.args.reader.now.who (g.C.Choices.listed c.args.words.now) c.args.reader.now.memory.now c.args.accesses.now c.step_active-left.new.accesses c.args.qpu.now c.step_active-left.new.qpu c.qpu_job-job.result c.step_active-left.result
    c.requires.ready c.qpu_job-job.ensures c.step_active-left.ensures.kept c.step_active-left.ensures.steps

after : (g : _) (c : goal.After-is_some g) → Stepped c.args.reader.now.who (g.C.Choices.listed c.args.words.now) c.args.reader.now.memory.now c.args.accesses.now c.step_active-left.new.accesses c.args.qpu.now c.step_active-left.new.qpu c.qpu_job-job.result c.step_active-left.result
after g c =
    stepped c.args.reader.now.who (g.C.Choices.listed c.args.words.now) c.args.reader.now.memory.now c.args.accesses.now c.step_active-left.new.accesses c.args.qpu.now c.step_active-left.new.qpu c.qpu_job-job.result c.step_active-left.result
    c.requires.ready c.qpu_job-job.ensures c.step_active-left.ensures.kept c.step_active-left.ensures.steps

pub settle-requires-clause-room0 : goal.settle-requires-clause-room0
settle-requires-clause-room0 g c = (settle_room c.args.reader.now.who (g.C.Choices.listed c.args.words.now) c.args.reader.now.memory.now c.args.accesses.now _ c.args.qpu.now _ _ _ c.requires.bounded (steps g c)).0

pub settle-requires-clause-room1 : goal.settle-requires-clause-room1
settle-requires-clause-room1 g c = (settle_room c.args.reader.now.who (g.C.Choices.listed c.args.words.now) c.args.reader.now.memory.now c.args.accesses.now _ c.args.qpu.now _ _ _ c.requires.bounded (steps g c)).1

pub returns-clause-bounded : goal.returns-clause-bounded
returns-clause-bounded g c = settle_bounded c.args.reader.now.who (g.C.Choices.listed c.args.words.now) c.args.reader.now.memory.now c.args.accesses.now _ c.args.qpu.now _ _ _ _ c.requires.bounded (after g c) c.settle.ensures

pub returns-clause-shows : goal.returns-clause-shows
returns-clause-shows g c =
    subst (λ some. CarriesOver c.args.reader.now.who (qpu_plan c.args.qpu.now (g.C.Choices.listed c.args.words.now)) c.args.reader.now.memory.now c.args.accesses.now c.step_active-left.new.accesses (if_tame some c.settle.new.qpu)) (sym c.is_some.ensures)
    (settle_shows c.args.reader.now.who (g.C.Choices.listed c.args.words.now) c.args.reader.now.memory.now c.args.accesses.now _ c.args.qpu.now _ _ _ _ (after g c) c.settle.ensures)

pub returns-clause-wild : goal.returns-clause-wild
returns-clause-wild g c = λ none. settle_wild c.args.reader.now.who (g.C.Choices.listed c.args.words.now) c.args.reader.now.memory.now c.args.accesses.now _ c.args.qpu.now _ _ _ _ (after g c) c.settle.ensures (sym c.is_some.ensures ∙ none)
