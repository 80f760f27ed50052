-- The step is one that the script gave.
use Rattle.std.proofs.Common.{◌∙◌, refl, ap, subst, arith}
use Rattle.replay.specs.{Trace.line_of, Units.candidates, Run.IsPicked}
use Rattle.replay.proofs.Going.{picked_may, steps_by}
use Rattle.replay.proofs.follow.go_on.Goals as goal

pub returns-clause-did : goal.returns-clause-did
returns-clause-did g c =
    let picks = g.S.Script.picks c.args.script.now in
    let units = c.as_slice.ensures.value ∙ c.in_ok-units.ensures.units in
    let picked = subst (λ units. IsPicked picks c.args.step (candidates c.args.favoured units) c.picked-unit.result) units c.picked-unit.ensures in
    let stepped = c.step_by.ensures.moved (c.step_by.ensures.done (picked_may picks c.args.step c.args.favoured c.args.machine.now c.picked-unit.result picked)) in
    let listed = c.step_by.new.accesses.items in
    steps_by picks _ c.args.favoured c.args.step c.args.machine.now c.step_by.new.self c.picked-unit.result _ listed listed c.job_of-job.result c.line_of.result
    c.in_ok-units.ensures.goes picked (c.words-words.ensures.long ∙ c.word_count.ensures.value) (λ k below. c.words-words.ensures.given k (omega (arith, below, c.words-words.ensures.long)))
    stepped refl c.job_of-job.ensures (c.line_of.ensures ∙ ap (line_of c.picked-unit.result c.job_of-job.result) c.as_slice-2.ensures.value)
