-- The source's words stand, and then one zero more.
use Rattle.std.proofs.Common.{◌≡◌, ◌+◌, ◌/◌, ap, ◌∙◌, arith}
use Rattle.packets.specs.StateWord.{record_room}
use Rattle.field_words.specs.{WordBytes.word_bytes, Writes.with_bytes}
use Rattle.field_words.proofs.WordBytes.{same_words, put_next}
use Rattle.shader_records.specs.{Sources.word_from, Emission.plain_word}
use Rattle.shader_records.proofs.{Inside.record_whole, Inside.emitted_in, Inside.source_is, RecordWords.plain_from, RecordWords.plain_past}
use Rattle.shader_records.proofs.record_text.put_plain.Goals as goal

pub copy_records-requires-clause-inside : goal.copy_records-requires-clause-inside
copy_records-requires-clause-inside c =
    let all = source_is c.args.source.state in
    omega (arith, c.record_size.ensures.value, c.handles_size.ensures.value, all, c.requires.inside)

pub copy_records-requires-clause-room : goal.copy_records-requires-clause-room
copy_records-requires-clause-room c =
    let e = emitted_in c.args.source.state in
    omega (arith, c.record_size.ensures.value, e.0, c.requires.room)

pub loop-i-init : goal.loop-i-init
loop-i-init c =
    let input = c.args.inputs.now in
    let source = c.args.source in
    let whole = record_whole source.state in
    let size = c.record_size.ensures.value in
    let room = emitted_in source.state in
    let from = source.at + c.handles_size.result in
    let count = c.record_size.result / 4 in
    record {
      text =
          c.copy_records.ensures
          ∙ ap (λ t. with_bytes c.args.out.now c.args.base t)
          (same_words (word_from input.records from) (plain_word input source.at source.state) count
          (λ k below. plain_from input source.at source.state from k (ap (λ h. source.at + h) c.handles_size.ensures.value) (omega (arith, size, below))));
      past = omega (arith, whole, size);
      inside = omega (arith, size, room.0);
    }

pub loop-i-preserved : goal.loop-i-preserved
loop-i-preserved c =
    let source = c.args.source in
    record {
      text =
          put_next c.args.out.now c.args.base (plain_word c.args.inputs.now source.at source.state) c.loop-i.i c.loop-i.out c.put_u32.new.bytes 0 c.loop-i.invariant.text
          (plain_past c.args.inputs.now source.at source.state c.loop-i.i c.loop-i.invariant.past) c.put_u32.ensures
          (omega (arith, c.record_room.ensures.value, c.loop-i-test.true, c.requires.room));
      past = omega (arith, c.loop-i.invariant.past);
      inside = omega (arith, c.loop-i-test.true, c.record_room.ensures.value);
    }

pub returns : goal.returns
returns c =
    let source = c.args.source in
    let end : c.loop-i.i ≡ record_room source.state / 4 = omega (arith, c.loop-i.invariant.inside, c.loop-i-test.false, c.record_room.ensures.value) in
    c.loop-i.invariant.text
    ∙ ap (λ n. with_bytes c.args.out.now c.args.base (word_bytes (plain_word c.args.inputs.now source.at source.state) n)) end
