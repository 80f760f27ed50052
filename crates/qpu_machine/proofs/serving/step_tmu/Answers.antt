-- A TMU's oldest request is served.
use Rattle.std.proofs.Common.{◌<◌, ◌∙◌, sym, ap, subst, Some, None}
use Rattle.std.specs.Prelude.{option_map}
use Rattle.qpu_machine.specs.{Qpu.slot_of, Qpu.after_service, Qpu.result_given, Bounds.IsBounded, Bounds.finished0, Bounds.finished1}
use Rattle.qpu_machine.proofs.Served.{give_room0, give_room1, dropped_bounded, given_bounded, tmu_shows}
use Rattle.qpu_machine.proofs.serving.step_tmu.Goals as goal

pub give-requires-clause-room0 : goal.give-requires-clause-room0
give-requires-clause-room0 g c = λ is.
    subst (λ q. finished0 (slot_of q c.drop_oldest-request.result.second) < 8) (sym c.drop_oldest-request.ensures.qpu)
    (give_room0 c.args.qpu.now c.args.tmu c.drop_oldest-request.result c.requires.bounded c.drop_oldest-request.ensures.value is)

pub give-requires-clause-room1 : goal.give-requires-clause-room1
give-requires-clause-room1 g c = λ is.
    subst (λ q. finished1 (slot_of q c.drop_oldest-request.result.second) < 8) (sym c.drop_oldest-request.ensures.qpu)
    (give_room1 c.args.qpu.now c.args.tmu c.drop_oldest-request.result c.requires.bounded c.drop_oldest-request.ensures.value is)

pub returns-in-Some-clause-bounded : goal.returns-in-Some-clause-bounded
returns-in-Some-clause-bounded g c =
    subst IsBounded (sym (c.give.ensures ∙ ap (λ q. result_given q c.args.tmu c.drop_oldest-request.result.second c.in-Some.row) c.drop_oldest-request.ensures.qpu))
    (given_bounded c.args.qpu.now c.args.tmu c.drop_oldest-request.result c.in-Some.row c.requires.bounded c.drop_oldest-request.ensures.value)

pub returns-in-Some-clause-shows : goal.returns-in-Some-clause-shows
returns-in-Some-clause-shows g c =
    tmu_shows c.args.reader.now.who c.args.qpu.now c.args.tmu (g.C.Choices.listed c.args.words.now) c.args.reader.now.memory.now c.args.accesses.now.items _ c.drop_oldest-request.result c.serve.result (Some c.give.new.qpu) c.drop_oldest-request.ensures.value c.serve.ensures
    (ap (option_map (after_service c.args.qpu.now c.args.tmu c.drop_oldest-request.result)) c.in-Some.is
    ∙ ap Some (sym (c.give.ensures ∙ ap (λ q. result_given q c.args.tmu c.drop_oldest-request.result.second c.in-Some.row) c.drop_oldest-request.ensures.qpu)))

pub returns-in-None-clause-bounded : goal.returns-in-None-clause-bounded
returns-in-None-clause-bounded g c = subst IsBounded (sym c.drop_oldest-request.ensures.qpu) (dropped_bounded c.args.qpu.now c.args.tmu c.requires.bounded)

pub returns-in-None-clause-shows : goal.returns-in-None-clause-shows
returns-in-None-clause-shows g c =
    tmu_shows c.args.reader.now.who c.args.qpu.now c.args.tmu (g.C.Choices.listed c.args.words.now) c.args.reader.now.memory.now c.args.accesses.now.items _ c.drop_oldest-request.result c.serve.result None c.drop_oldest-request.ensures.value c.serve.ensures
    (ap (option_map (after_service c.args.qpu.now c.args.tmu c.drop_oldest-request.result)) c.in-None.is)
