-- The words of one shader more, and of one attribute more, are as they are emitted.
use Rattle.std.proofs.Common.{◌≡◌, ◌<◌, ◌+◌, ◌*◌, ◌/◌, slice_index, sym, ap, ◌∙◌, arith, inl, inr}
use Rattle.std.proofs.lemmas.Bool.{cases_lt}
use Rattle.packets.specs.StateWord.{attribute_count, record_room}
use Rattle.emitted_facts.proofs.Records.{header_in, entry_in}
use Rattle.field_words.specs.{WordBytes.word_bytes, Writes.with_bytes}
use Rattle.field_words.proofs.WordBytes.{same_words, put_word}
use Rattle.shader_records.specs.Emission.{emitted_word, plain_word, stream_place, record_text}
use Rattle.shader_records.proofs.RecordWords.{done_word, done_here, done_past, done_others, code_word, stream_word, flags_stay, address_emitted, others_stay}
use Rattle.shader_records.proofs.{Fine.source_inside, Inside.fixed_in, Inside.emitted_in, Inside.source_is, Inside.attribute_in}
use Rattle.shader_records.proofs.record_text.put_record.Goals as goal

pub places_of-places-requires-clause-inside : goal.places_of-places-requires-clause-inside
places_of-places-requires-clause-inside c =
    let source = c.args.source in
    omega (arith, source_inside c.args.inputs.now source.at source.state source.max_index c.requires.fine, fixed_in source.state)

pub put_u32-requires : goal.put_u32-requires
put_u32-requires c =
    let e = emitted_in c.args.source.state in
    let h = header_in c.args.source.state in
    omega (arith, e.0, h, c.loop-s-test.true, c.loop-s.auto.out, c.requires.room)

pub put_u32-requires-in-loop-s : goal.put_u32-requires-in-loop-s
put_u32-requires-in-loop-s c =
    let e = emitted_in c.args.source.state in
    let h = header_in c.args.source.state in
    omega (arith, e.0, h, c.loop-s-test.true, c.loop-s.auto.out, c.requires.room)

pub put_u32-requires-in-loop-t : goal.put_u32-requires-in-loop-t
put_u32-requires-in-loop-t c =
    let e = emitted_in c.args.source.state in
    let below : c.loop-t.t < attribute_count c.args.source.state = omega (arith, c.loop-t-test.true, c.attribute_count-t-end.ensures.value) in
    let a = entry_in c.args.source.state c.loop-t.t below in
    omega (arith, e.0, a, c.loop-t.auto.out, c.requires.room)

pub loop-s-init : goal.loop-s-init
loop-s-init c =
    let input = c.args.inputs.now in
    let source = c.args.source in
    let places = stream_place input source.at c.args.first in
    c.put_plain.ensures
    ∙ ap (λ t. with_bytes c.args.out.now c.args.base t)
    (same_words (plain_word input source.at source.state) (done_word input source.at source.state places 0) (record_room source.state / 4)
    (λ k below. sym (done_past input source.at source.state places 0 k (omega arith))))

pub loop-s-preserved : goal.loop-s-preserved
loop-s-preserved c =
    let input = c.args.inputs.now in
    let source = c.args.source in
    let places = stream_place input source.at c.args.first in
    let s = c.loop-s.s in
    let below = c.loop-s-test.true in
    let words = record_room source.state / 4 in
    let done = done_word input source.at source.state places in
    let e = emitted_in source.state in
    let r = source_is source.state in
    let f = fixed_in source.state in
    let next : 3 * s + 3 ≡ 3 * (s + 1) = omega arith in
    put_word c.args.out.now c.args.base (done (3 * s + 2)) (done (3 * s + 3)) words (3 * s + 2) c.put_u32.new.bytes c.put_u32-in-loop-s.new.bytes (slice_index c.places_of-places.result.streams s)
    (put_word c.args.out.now c.args.base (done (3 * s)) (done (3 * s + 2)) words (3 * s + 1) c.loop-s.out c.put_u32.new.bytes (slice_index c.places_of-places.result.codes s)
    c.loop-s.invariant
    (c.places_of-places.ensures.codes.each s below ∙ sym (code_word input source.at source.state places s below) ∙ sym (done_here input source.at source.state places (3 * s + 2) (3 * s + 1) (omega arith)))
    c.put_u32.ensures (omega (arith, c.requires.room)) (omega (arith, e.0, e.2, r, f.1, below))
    (λ k inside other.
    done_others input source.at source.state places (3 * s) (3 * s + 2) (3 * s + 1) k (omega arith)
    (λ j from upto not. flags_stay input source.at source.state places s j below (omega (arith, from, upto, not))) other))
    (c.places_of-places.ensures.streams.each s below ∙ sym (stream_word input source.at source.state places s below) ∙ sym (done_here input source.at source.state places (3 * s + 3) (3 * s + 2) (omega arith)))
    c.put_u32-in-loop-s.ensures (omega (arith, c.requires.room)) (omega (arith, e.0, e.2, r, f.1, below))
    (λ k inside other.
    done_others input source.at source.state places (3 * s + 2) (3 * s + 3) (3 * s + 2) k (omega arith)
    (λ j from upto not. absurd (not (omega (arith, from, upto)))) other)
    ∙ ap (λ n. with_bytes c.args.out.now c.args.base (word_bytes (done n) words)) next

pub loop-t-init : goal.loop-t-init
loop-t-init c =
    let input = c.args.inputs.now in
    let source = c.args.source in
    let places = stream_place input source.at c.args.first in
    let end : 3 * c.loop-s.s ≡ 9 = omega (arith, c.loop-s-test.false, c.loop-s.auto.s-end) in
    c.loop-s.invariant
    ∙ ap (λ n. with_bytes c.args.out.now c.args.base (word_bytes (done_word input source.at source.state places n) (record_room source.state / 4))) end

pub loop-t-preserved : goal.loop-t-preserved
loop-t-preserved c =
    let input = c.args.inputs.now in
    let source = c.args.source in
    let places = stream_place input source.at c.args.first in
    let t = c.loop-t.t in
    let count = c.attribute_count-t-end.ensures.value in
    let below : t < attribute_count source.state = omega (arith, c.loop-t-test.true, count) in
    let words = record_room source.state / 4 in
    let done = done_word input source.at source.state places in
    let e = emitted_in source.state in
    let r = source_is source.state in
    let a = attribute_in source.state t below in
    let next : 9 + 2 * t + 2 ≡ 9 + 2 * (t + 1) = omega arith in
    put_word c.args.out.now c.args.base (done (9 + 2 * t)) (done (9 + 2 * t + 2)) words (9 + 2 * t) c.loop-t.out c.put_u32-in-loop-t.new.bytes c.moved_address-word.result
    c.loop-t.invariant
    (c.moved_address-word.ensures ∙ sym (address_emitted input source.at source.state places t below) ∙ sym (done_here input source.at source.state places (9 + 2 * t + 2) (9 + 2 * t) (omega arith)))
    c.put_u32-in-loop-t.ensures (omega (arith, c.requires.room)) (omega (arith, e.0, e.2, r, a))
    (λ k inside other.
    done_others input source.at source.state places (9 + 2 * t) (9 + 2 * t + 2) (9 + 2 * t) k (omega arith)
    (λ j from upto not. others_stay input source.at source.state places j (omega (arith, from)) (inl (omega (arith, from, upto, not)))) other)
    ∙ ap (λ n. with_bytes c.args.out.now c.args.base (word_bytes (done n) words)) next

pub returns-clause-text : goal.returns-clause-text
unfolding record_text
returns-clause-text c =
    let input = c.args.inputs.now in
    let source = c.args.source in
    let places = stream_place input source.at c.args.first in
    let end : c.loop-t.t ≡ attribute_count source.state = omega (arith, c.loop-t-test.false, c.loop-t.auto.t-end, c.attribute_count-t-end.ensures.value) in
    c.loop-t.invariant
    ∙ ap (λ t. with_bytes c.args.out.now c.args.base t)
    (same_words (done_word input source.at source.state places (9 + 2 * c.loop-t.t)) (emitted_word input source.at source.state places) (record_room source.state / 4)
    (λ k below.
    elim (cases_lt k (9 + 2 * c.loop-t.t)) [
      | inl before ↦ done_here input source.at source.state places (9 + 2 * c.loop-t.t) k before
      | inr past ↦
          done_past input source.at source.state places (9 + 2 * c.loop-t.t) k past
          ∙ sym (others_stay input source.at source.state places k (omega (arith, past)) (inr (omega (arith, past, end))))
    ]))
