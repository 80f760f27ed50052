-- The streams of one state more stand.
use Rattle.std.proofs.Common.{◌+◌, sym, ap, ◌∙◌, arith}
use Rattle.field_words.specs.{Writes.with_bytes, Questions.first_of}
use Rattle.shader_records.specs.Sources.{source_size, record_source, uniform_source, stream_offset, shader_used, taken_before, given_before}
use Rattle.shader_records.specs.{Rules.use_questions, Emission.streams_text, Emission.uniforms_text}
use Rattle.shader_records.proofs.Steps.{record_zero, uniforms_zero, streams_zero, record_next, uniforms_next, streams_next}
use Rattle.shader_records.proofs.Lengths.{put_behind, length_streams, length_uniforms, uniforms_more, no_uniforms, state_inside}
use Rattle.shader_records.proofs.Fine.{state_fine}
use Rattle.shader_records.proofs.emit.put_uniforms.Goals as goal

pub loop-k-init : goal.loop-k-init
loop-k-init c =
    record {
      text = no_uniforms c.args.out.now c.args.base c.args.inputs.now c.args.first (omega (arith, c.requires.room));
      at = sym (record_zero c.args.inputs.now);
      from = sym (uniforms_zero c.args.inputs.now);
      done = sym (streams_zero c.args.inputs.now);
    }

pub overflow_cast-stream : goal.overflow_cast-stream
overflow_cast-stream c =
    let inside = state_inside c.args.inputs.now c.loop-k.k c.requires.fine (omega (arith, c.loop-k-test.true, c.count-k-end.ensures)) in
    omega (arith, inside.given, c.loop-k.invariant.done, c.requires.places)

pub overflow_add-stream : goal.overflow_add-stream
overflow_add-stream c =
    let inside = state_inside c.args.inputs.now c.loop-k.k c.requires.fine (omega (arith, c.loop-k-test.true, c.count-k-end.ensures)) in
    omega (arith, inside.given, c.loop-k.invariant.done, c.requires.places)

pub overflow_add-stream-in-loop-k : goal.overflow_add-stream-in-loop-k
overflow_add-stream-in-loop-k c =
    let inside = state_inside c.args.inputs.now c.loop-k.k c.requires.fine (omega (arith, c.loop-k-test.true, c.count-k-end.ensures)) in
    omega (arith, inside.given, c.loop-k.invariant.done, c.requires.places, c.requires.base)

pub put_streams-amounts-requires-clause-inside : goal.put_streams-amounts-requires-clause-inside
put_streams-amounts-requires-clause-inside c =
    let inside = state_inside c.args.inputs.now c.loop-k.k c.requires.fine (omega (arith, c.loop-k-test.true, c.count-k-end.ensures)) in
    omega (arith, inside.handles, c.loop-k.invariant.at)

pub put_streams-amounts-requires-clause-fine : goal.put_streams-amounts-requires-clause-fine
put_streams-amounts-requires-clause-fine c =
    let input = c.args.inputs.now in
    let fine = state_fine input c.loop-k.k c.requires.fine (omega (arith, c.loop-k-test.true, c.count-k-end.ensures)) in
    λ s below.
    ap (λ f. first_of (use_questions input (f + taken_before input c.loop-k.at s) (shader_used input c.loop-k.at s))) c.loop-k.invariant.from
    ∙ ap (λ at. first_of (use_questions input (uniform_source input c.loop-k.k + taken_before input at s) (shader_used input at s))) c.loop-k.invariant.at
    ∙ fine.of_use s below

pub put_streams-amounts-requires-clause-taken : goal.put_streams-amounts-requires-clause-taken
put_streams-amounts-requires-clause-taken c =
    let inside = state_inside c.args.inputs.now c.loop-k.k c.requires.fine (omega (arith, c.loop-k-test.true, c.count-k-end.ensures)) in
    omega (arith, inside.taken, c.loop-k.invariant.from, ap (λ at. taken_before c.args.inputs.now at 3) c.loop-k.invariant.at)

pub put_streams-amounts-requires-clause-places : goal.put_streams-amounts-requires-clause-places
put_streams-amounts-requires-clause-places c =
    let inside = state_inside c.args.inputs.now c.loop-k.k c.requires.fine (omega (arith, c.loop-k-test.true, c.count-k-end.ensures)) in
    omega (arith, inside.given, c.loop-k.invariant.done, c.requires.places, ap (λ at. given_before c.args.inputs.now at 3) c.loop-k.invariant.at)

pub put_streams-amounts-requires-clause-room : goal.put_streams-amounts-requires-clause-room
put_streams-amounts-requires-clause-room c =
    let inside = state_inside c.args.inputs.now c.loop-k.k c.requires.fine (omega (arith, c.loop-k-test.true, c.count-k-end.ensures)) in
    omega (arith, inside.given, c.loop-k.invariant.done, c.loop-k.auto.out, c.requires.room, ap (λ at. given_before c.args.inputs.now at 3) c.loop-k.invariant.at)

pub overflow_add-from : goal.overflow_add-from
overflow_add-from c =
    let inside = state_inside c.args.inputs.now c.loop-k.k c.requires.fine (omega (arith, c.loop-k-test.true, c.count-k-end.ensures)) in
    let amounts = ap (λ a. a.taken) c.put_streams-amounts.ensures.amounts ∙ ap (λ at. taken_before c.args.inputs.now at 3) c.loop-k.invariant.at in
    omega (arith, inside.taken, c.loop-k.invariant.from, amounts, c.requires.fits.uniforms)

pub overflow_add-done : goal.overflow_add-done
overflow_add-done c =
    let inside = state_inside c.args.inputs.now c.loop-k.k c.requires.fine (omega (arith, c.loop-k-test.true, c.count-k-end.ensures)) in
    let amounts = ap (λ a. a.given) c.put_streams-amounts.ensures.amounts ∙ ap (λ at. given_before c.args.inputs.now at 3) c.loop-k.invariant.at in
    omega (arith, inside.given, c.loop-k.invariant.done, amounts, c.requires.places)

pub overflow_add-at : goal.overflow_add-at
overflow_add-at c =
    let inside = state_inside c.args.inputs.now c.loop-k.k c.requires.fine (omega (arith, c.loop-k-test.true, c.count-k-end.ensures)) in
    omega (arith, inside.source, c.loop-k.invariant.at, c.source_size-at.ensures.limit, c.requires.fits.records)

pub loop-k-preserved : goal.loop-k-preserved
loop-k-preserved c =
    let input = c.args.inputs.now in
    let k = c.loop-k.k in
    let first = c.args.first in
    let at = record_source input k in
    let from = uniform_source input k in
    let inside = state_inside input k c.requires.fine (omega (arith, c.loop-k-test.true, c.count-k-end.ensures)) in
    let rest = streams_text input at from (first + stream_offset input k) 3 in
    let same =
    ap (λ a. streams_text input a c.loop-k.from (first + c.loop-k.done) 3) c.loop-k.invariant.at
    ∙ ap (λ f. streams_text input at f (first + c.loop-k.done) 3) c.loop-k.invariant.from
    ∙ ap (λ d. streams_text input at from (first + d) 3) c.loop-k.invariant.done in
    let long = length_streams input at from (first + stream_offset input k) 3 in
    let taken = ap (λ a. a.taken) c.put_streams-amounts.ensures.amounts ∙ ap (λ a. taken_before input a 3) c.loop-k.invariant.at in
    let given = ap (λ a. a.given) c.put_streams-amounts.ensures.amounts ∙ ap (λ a. given_before input a 3) c.loop-k.invariant.at in
    record {
      text =
          put_behind c.args.out.now c.args.base c.loop-k.done (uniforms_text input first k) rest c.loop-k.out c.put_streams-amounts.new.out c.loop-k.invariant.text
          (length_uniforms input first k ∙ sym c.loop-k.invariant.done) (c.put_streams-amounts.ensures.text ∙ ap (λ t. with_bytes c.loop-k.out (c.args.base + c.loop-k.done) t) same)
          (omega (arith, long, inside.given, c.loop-k.invariant.done, c.requires.room))
          ∙ ap (λ t. with_bytes c.args.out.now c.args.base t) (sym (uniforms_more input first k));
      at = omega (arith, c.loop-k.invariant.at, c.source_size-at.ensures.value, record_next input k, ap (λ s. source_size s.word) c.state.ensures);
      from = omega (arith, c.loop-k.invariant.from, taken, uniforms_next input k);
      done = omega (arith, c.loop-k.invariant.done, given, streams_next input k);
    }

pub put_streams-amounts-requires-clause-base : goal.put_streams-amounts-requires-clause-base
put_streams-amounts-requires-clause-base c =
    let inside = state_inside c.args.inputs.now c.loop-k.k c.requires.fine (omega (arith, c.loop-k-test.true, c.count-k-end.ensures)) in
    omega (arith, inside.given, c.loop-k.invariant.done, c.requires.fits.uniforms, c.requires.base)
