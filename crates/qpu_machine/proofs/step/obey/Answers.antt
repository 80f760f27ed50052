-- The two ways of an instruction.
use Rattle.std.proofs.Common.{◌≡◌, ◌∙◌, refl, sym, ap}
use Rattle.qpu_machine.specs.{Writes.awake, Wild.takes_one, Step.turn_executed, Step.turn_of}
use Rattle.qpu_machine.proofs.Shown.{wild_shows, fed_shows}
use Rattle.qpu_machine.proofs.step.obey.Goals as goal

pub returns-then-is_wild-clause-shows : goal.returns-then-is_wild-clause-shows
returns-then-is_wild-clause-shows g c =
    wild_shows c.args.reader.now.who c.args.thread.now c.args.word (g.C.Choices.listed c.args.words.now) c.args.reader.now.memory.now c.args.accesses.now.items _ (sym c.is_wild.ensures ∙ c.if-is_wild.true) c.list_access.ensures.items

pub returns-clause-shows : goal.returns-clause-shows
returns-clause-shows g c =
    let word = c.args.word in
    let words = (g.C.Choices.listed c.args.words.now) in
    let uniform = c.uniform_for-uniform.result in
    let turn : turn_executed word uniform words (awake words c.uniform_for-uniform.new.thread) ≡ turn_of c.execute.new.thread c.execute.result =
    ap (turn_executed word uniform words) (sym c.wake.ensures) ∙ c.execute.ensures.turn in
    fed_shows c.args.reader.now.who c.args.thread.now c.uniform_for-uniform.new.thread word uniform words c.args.reader.now.memory.now c.args.accesses.now.items _ _
    (takes_one c.args.thread.now word) refl (sym c.is_wild.ensures ∙ c.if-is_wild.false) c.uniform_for-uniform.ensures.thread c.uniform_for-uniform.ensures.value c.uniform_for-uniform.ensures.items turn
