-- One record more stands.
use Rattle.std.proofs.Common.{◌+◌, sym, ap, ◌∙◌, arith}
use Rattle.field_words.specs.{Writes.with_bytes, Questions.first_of}
use Rattle.shader_records.specs.Sources.{state_at, source_size, record_source, stream_offset, given_before}
use Rattle.shader_records.specs.{Rules.record_questions, Emission.record_text, Emission.records_text}
use Rattle.packets.specs.StateWord.{record_room}
use Rattle.shader_records.proofs.Steps.{record_zero, offset_zero, streams_zero, record_next, offset_next, streams_next}
use Rattle.shader_records.proofs.Lengths.{put_behind, length_record, length_records, records_more, no_records, state_inside}
use Rattle.shader_records.proofs.Fine.{state_fine}
use Rattle.shader_records.proofs.emit.put_records.Goals as goal

pub loop-k-init : goal.loop-k-init
loop-k-init c =
    record {
      text = no_records c.args.out.now c.args.base c.args.inputs.now c.args.first (omega (arith, c.requires.room));
      at = sym (record_zero c.args.inputs.now);
      given = sym (streams_zero c.args.inputs.now);
      done = sym (offset_zero c.args.inputs.now);
    }

pub overflow_cast-given : goal.overflow_cast-given
overflow_cast-given c =
    let inside = state_inside c.args.inputs.now c.loop-k.k c.requires.fine (omega (arith, c.loop-k-test.true, c.count-k-end.ensures)) in
    omega (arith, inside.given, c.loop-k.invariant.given, c.requires.places)

pub overflow_add-first : goal.overflow_add-first
overflow_add-first c =
    let inside = state_inside c.args.inputs.now c.loop-k.k c.requires.fine (omega (arith, c.loop-k-test.true, c.count-k-end.ensures)) in
    omega (arith, inside.given, c.loop-k.invariant.given, c.requires.places)

pub overflow_add-base : goal.overflow_add-base
overflow_add-base c =
    let inside = state_inside c.args.inputs.now c.loop-k.k c.requires.fine (omega (arith, c.loop-k-test.true, c.count-k-end.ensures)) in
    omega (arith, inside.emitted, c.loop-k.invariant.done, c.requires.fits.records, c.requires.base)

pub put_record-given-requires-clause-fine : goal.put_record-given-requires-clause-fine
put_record-given-requires-clause-fine c =
    let fine = state_fine c.args.inputs.now c.loop-k.k c.requires.fine (omega (arith, c.loop-k-test.true, c.count-k-end.ensures)) in
    ap (λ s. first_of (record_questions c.args.inputs.now s.at s.state s.max_index)) c.source_of-source.ensures
    ∙ ap (λ at. first_of (record_questions c.args.inputs.now at (state_at c.args.inputs.now c.loop-k.k).word (state_at c.args.inputs.now c.loop-k.k).max_index)) c.loop-k.invariant.at
    ∙ fine.of_record

pub put_record-given-requires-clause-streams : goal.put_record-given-requires-clause-streams
put_record-given-requires-clause-streams c =
    let inside = state_inside c.args.inputs.now c.loop-k.k c.requires.fine (omega (arith, c.loop-k-test.true, c.count-k-end.ensures)) in
    let same = ap (λ s. given_before c.args.inputs.now s.at 3) c.source_of-source.ensures ∙ ap (λ at. given_before c.args.inputs.now at 3) c.loop-k.invariant.at in
    omega (arith, inside.given, c.loop-k.invariant.given, c.requires.places, same)

pub put_record-given-requires-clause-room : goal.put_record-given-requires-clause-room
put_record-given-requires-clause-room c =
    let inside = state_inside c.args.inputs.now c.loop-k.k c.requires.fine (omega (arith, c.loop-k-test.true, c.count-k-end.ensures)) in
    let same = ap (λ s. record_room s.state) c.source_of-source.ensures in
    omega (arith, inside.emitted, c.loop-k.invariant.done, c.requires.room, c.loop-k.auto.out, same)

pub overflow_add-given : goal.overflow_add-given
overflow_add-given c =
    let inside = state_inside c.args.inputs.now c.loop-k.k c.requires.fine (omega (arith, c.loop-k-test.true, c.count-k-end.ensures)) in
    omega (arith, inside.given, c.loop-k.invariant.given, c.requires.places, c.put_record-given.ensures.given, ap (λ s. given_before c.args.inputs.now s.at 3) c.source_of-source.ensures, ap (λ at. given_before c.args.inputs.now at 3) c.loop-k.invariant.at)

pub overflow_add-at : goal.overflow_add-at
overflow_add-at c =
    let inside = state_inside c.args.inputs.now c.loop-k.k c.requires.fine (omega (arith, c.loop-k-test.true, c.count-k-end.ensures)) in
    omega (arith, inside.source, c.loop-k.invariant.at, c.source_size-at.ensures.limit, c.requires.fits.records)

pub overflow_add-done : goal.overflow_add-done
overflow_add-done c =
    let inside = state_inside c.args.inputs.now c.loop-k.k c.requires.fine (omega (arith, c.loop-k-test.true, c.count-k-end.ensures)) in
    omega (arith, inside.emitted, c.loop-k.invariant.done, c.record_room.ensures.limit, c.requires.fits.records)

pub loop-k-preserved : goal.loop-k-preserved
loop-k-preserved c =
    let input = c.args.inputs.now in
    let k = c.loop-k.k in
    let first = c.args.first in
    let state = (state_at input k).word in
    let inside = state_inside input k c.requires.fine (omega (arith, c.loop-k-test.true, c.count-k-end.ensures)) in
    let rest = record_text input (record_source input k) state (first + stream_offset input k) in
    let source = c.source_of-source.ensures in
    let same =
    ap (λ s. record_text input s.at s.state (first + c.loop-k.given)) source
    ∙ ap (λ at. record_text input at state (first + c.loop-k.given)) c.loop-k.invariant.at
    ∙ ap (λ g. record_text input (record_source input k) state (first + g)) c.loop-k.invariant.given in
    let long = length_record input (record_source input k) state (first + stream_offset input k) in
    let taken = c.put_record-given.ensures.given ∙ ap (λ s. given_before input s.at 3) source ∙ ap (λ at. given_before input at 3) c.loop-k.invariant.at in
    record {
      text =
          put_behind c.args.out.now c.args.base c.loop-k.done (records_text input first k) rest c.loop-k.out c.put_record-given.new.out c.loop-k.invariant.text
          (length_records input first k ∙ sym c.loop-k.invariant.done) (c.put_record-given.ensures.text ∙ ap (λ t. with_bytes c.loop-k.out (c.args.base + c.loop-k.done) t) same)
          (omega (arith, long, inside.emitted, c.loop-k.invariant.done, c.requires.room))
          ∙ ap (λ t. with_bytes c.args.out.now c.args.base t) (sym (records_more input first k));
      at = omega (arith, c.loop-k.invariant.at, c.source_size-at.ensures.value, record_next input k, ap (λ s. source_size s.state) source);
      given = omega (arith, c.loop-k.invariant.given, taken, streams_next input k);
      done = omega (arith, c.loop-k.invariant.done, c.record_room.ensures.value, offset_next input k, ap (λ s. record_room s.state) source);
    }
