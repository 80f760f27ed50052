use Rattle.std.proofs.Common.{refl, ◌-◌, Some, arith, ap, sym, ◌∙◌}
use Rattle.field_words.specs.Questions.{first_of}
use Rattle.field_words.proofs.Questions.{answered_none, answered_some}
use Rattle.bin_list.specs.{Packets.packets_passed, Seen.seen_before, Faults.fault, Rules.end_questions, declared.info.BinInfo.BinInfo}
use Rattle.bin_list.proofs.Sound.{sound_info}
use Rattle.bin_list.proofs.check.finish.Goals as goal

pub returns-in-Some-clause-answers : goal.returns-in-Some-clause-answers
returns-in-Some-clause-answers c =
    let size = c.args.given.now.size in
    answered_some (fault size) (end_questions (seen_before (packets_passed c.args.list.now))) c.in-Some.rule
    (ap (λ s. first_of (end_questions s)) (sym c.requires.read.seen) ∙ sym c.in-Some.ensures)
    ∙ ap (λ n. Some (record { number = n; at = c.args.given.now.size })) (sym c.number.ensures) ∙ ap (λ n. Some (record { number = c.number.result; at = n })) c.requires.size

pub returns-clause-answers : goal.returns-clause-answers
returns-clause-answers c =
    let read = c.requires.read in (
      answered_none (fault c.args.given.now.size) (end_questions (seen_before (packets_passed c.args.list.now)))
          (ap (λ s. first_of (end_questions s)) (sym read.seen) ∙ sym c.in_default.ensures),
      record {
        tiles_x = ap (λ s. s.tiles_x) read.seen;
        tiles_y = ap (λ s. s.tiles_y) read.seen;
        states = c.in_ok-states.ensures.states ∙ read.states;
        length_is = omega (arith, read.end);
      },
    )

pub returns-clause-sound : goal.returns-clause-sound
returns-clause-sound c =
    let read = c.requires.read in
    let info : BinInfo = record { tiles_x = c.args.read.seen.tiles_x; tiles_y = c.args.read.seen.tiles_y; states = c.in_ok-states.states; length = c.args.read.end - c.args.layout.now.bin } in
    sound_info c.args.given.now c.args.list.now c.args.read.seen info c.requires.fine read.seen (sym c.in_default.ensures) refl refl (c.in_ok-states.ensures.states ∙ read.states)
