use Rattle.std.proofs.Common.{[], Ok, Err, Result, OnOk, refl}
use Rattle.field_words.specs.{Questions.with_answers, declared.stop.Stop.Stop}
use Rattle.field_words.proofs.{Questions.answers_later, Questions.refuses_front, Least.names_least}
use Rattle.bin_list.specs.{declared.fault.ListFault.ListFault, declared.info.BinInfo.BinInfo, Faults.fault, Faults.IsUpTo, Packets.packets_passed}
use Rattle.bin_list.specs.{Seen.seen_before, Rules.questions_of_packets, Rules.end_questions, Rules.questions_of, Rules.given_of}
use Rattle.bin_list.specs.Info.{IsInfo}
use Rattle.bin_list.proofs.Least.{order, rises_list}
use Rattle.bin_list.proofs.check.check_bin.Goals as goal

on_ok : (P : Type 0) (result : Result BinInfo (Stop ListFault)) → P → OnOk result P
on_ok P (Ok info) holds = holds
on_ok P (Err stop) holds = tt

pub returns-in-Ok-clause-answers : goal.returns-in-Ok-clause-answers
unfolding questions_of
returns-in-Ok-clause-answers c =
    let list = c.args.list.now in
    let given = given_of list c.args.declared c.args.table.now c.args.handles.now in
    let P : BinInfo → Type 0 = λ info. IsInfo list c.args.declared c.args.table.now c.args.handles.now c.args.layout.now info in
    answers_later (questions_of_packets given (packets_passed list)) (with_answers (fault given.size) (end_questions (seen_before (packets_passed list)))) P c.finish.result
    c.in-Ok.ensures.answers.0 c.finish.ensures.answers

pub returns-in-Ok-clause-least : goal.returns-in-Ok-clause-least
unfolding questions_of
returns-in-Ok-clause-least c =
    let list = c.args.list.now in
    let given = given_of list c.args.declared c.args.table.now c.args.handles.now in
    let P : BinInfo → Type 0 = λ info. IsInfo list c.args.declared c.args.table.now c.args.handles.now c.args.layout.now info in
    names_least IsUpTo _ _ (questions_of given (packets_passed list)) P c.finish.result order (rises_list given list refl)
    (answers_later (questions_of_packets given (packets_passed list)) (with_answers (fault given.size) (end_questions (seen_before (packets_passed list)))) P c.finish.result
    c.in-Ok.ensures.answers.0 c.finish.ensures.answers)

pub returns-in-Ok-clause-put : goal.returns-in-Ok-clause-put
returns-in-Ok-clause-put c = on_ok _ c.finish.result c.in-Ok.ensures.put

pub returns-in-Ok-clause-memory : goal.returns-in-Ok-clause-memory
unfolding seen_before
returns-in-Ok-clause-memory c = λ error.
    record { earlier = packets_passed c.args.list.now; later = []; whole = refl; fine = c.in-Ok.ensures.answers.0; some = c.finish.ensures.memory error }

pub returns-in-Err-clause-answers : goal.returns-in-Err-clause-answers
unfolding questions_of
returns-in-Err-clause-answers c =
    let list = c.args.list.now in
    let given = given_of list c.args.declared c.args.table.now c.args.handles.now in
    refuses_front (questions_of_packets given (packets_passed list)) (with_answers (fault given.size) (end_questions (seen_before (packets_passed list)))) c.in-Err.stop c.in-Err.ensures.answers

pub returns-in-Err-clause-least : goal.returns-in-Err-clause-least
unfolding questions_of
returns-in-Err-clause-least c =
    let list = c.args.list.now in
    let given = given_of list c.args.declared c.args.table.now c.args.handles.now in
    names_least {X = BinInfo} IsUpTo _ _ (questions_of given (packets_passed list)) (λ info. Unit {0}) (Err c.in-Err.stop) order (rises_list given list refl)
    (refuses_front (questions_of_packets given (packets_passed list)) (with_answers (fault given.size) (end_questions (seen_before (packets_passed list)))) c.in-Err.stop c.in-Err.ensures.answers)
