-- One stream more stands.
use Rattle.std.proofs.Common.{◌≡◌, ◌+◌, sym, ap, ◌∙◌, arith}
use Rattle.field_words.specs.Writes.{with_bytes}
use Rattle.shader_records.specs.Sources.{shader_used, taken_before, given_before}
use Rattle.shader_records.specs.Emission.{stream_text, streams_text}
use Rattle.shader_records.proofs.Steps.{taken_zero, given_zero, taken_next, given_next, given_upto, taken_upto}
use Rattle.shader_records.proofs.Lengths.{put_behind, length_stream, length_streams, streams_more, no_streams}
use Rattle.shader_records.proofs.stream_text.put_streams.Goals as goal

pub loop-s-init : goal.loop-s-init
loop-s-init c =
    record {
      text = no_streams c.args.out.now c.args.first.base c.args.inputs.now c.args.at c.args.first.from c.args.first.place (omega (arith, c.requires.room));
      taken = sym (taken_zero c.args.inputs.now c.args.at);
      given = sym (given_zero c.args.inputs.now c.args.at);
    }

pub overflow_cast-stream : goal.overflow_cast-stream
overflow_cast-stream c = omega (arith, c.loop-s.invariant.given, given_upto c.args.inputs.now c.args.at c.loop-s.s c.loop-s-test.true, c.requires.places)

pub overflow_add-stream-in-loop-s : goal.overflow_add-stream-in-loop-s
overflow_add-stream-in-loop-s c = omega (arith, c.loop-s.invariant.given, given_upto c.args.inputs.now c.args.at c.loop-s.s c.loop-s-test.true, c.requires.places)

pub overflow_add-stream-in-loop-s-2 : goal.overflow_add-stream-in-loop-s-2
overflow_add-stream-in-loop-s-2 c = omega (arith, c.loop-s.invariant.given, given_upto c.args.inputs.now c.args.at c.loop-s.s c.loop-s-test.true, c.requires.places, c.requires.base)

pub overflow_add-stream : goal.overflow_add-stream
overflow_add-stream c = omega (arith, c.loop-s.invariant.taken, taken_upto c.args.inputs.now c.args.at c.loop-s.s c.loop-s-test.true, c.requires.taken, c.requires.fits.uniforms)

pub put_stream-amounts-requires-clause-room : goal.put_stream-amounts-requires-clause-room
put_stream-amounts-requires-clause-room c = omega (arith, c.loop-s.invariant.given, c.loop-s.auto.out, given_upto c.args.inputs.now c.args.at c.loop-s.s c.loop-s-test.true, c.requires.room)

pub overflow_add-taken : goal.overflow_add-taken
overflow_add-taken c = omega (arith, c.loop-s.invariant.taken, c.put_stream-amounts.ensures.taken, taken_upto c.args.inputs.now c.args.at c.loop-s.s c.loop-s-test.true, c.requires.taken, c.requires.fits.uniforms)

pub overflow_add-given : goal.overflow_add-given
overflow_add-given c = omega (arith, c.loop-s.invariant.given, c.put_stream-amounts.ensures.given, given_upto c.args.inputs.now c.args.at c.loop-s.s c.loop-s-test.true, c.requires.places)

pub loop-s-preserved : goal.loop-s-preserved
loop-s-preserved c =
    let input = c.args.inputs.now in
    let at = c.args.at in
    let s = c.loop-s.s in
    let from = c.args.first.from in
    let first = c.args.first.place in
    let given = c.loop-s.invariant.given in
    let rest = stream_text input (from + taken_before input at s) (first + given_before input at s) (shader_used input at s) in
    let same : stream_text input (from + c.loop-s.taken) (first + c.loop-s.given) (shader_used input at s) ≡ rest =
    ap (λ h. stream_text input (from + h) (first + c.loop-s.given) (shader_used input at s)) c.loop-s.invariant.taken
    ∙ ap (λ d. stream_text input (from + taken_before input at s) (first + d) (shader_used input at s)) given in
    let long = length_stream input (from + taken_before input at s) (first + given_before input at s) (shader_used input at s) in
    record {
      text =
          put_behind c.args.out.now c.args.first.base c.loop-s.given (streams_text input at from first s) rest c.loop-s.out c.put_stream-amounts.new.out c.loop-s.invariant.text
          (length_streams input at from first s ∙ sym given) (c.put_stream-amounts.ensures.text ∙ ap (λ t. with_bytes c.loop-s.out (c.args.first.base + c.loop-s.given) t) same)
          (omega (arith, given, long, given_upto input at s c.loop-s-test.true, c.requires.room))
          ∙ ap (λ t. with_bytes c.args.out.now c.args.first.base t) (sym (streams_more input at from first s));
      taken = omega (arith, c.loop-s.invariant.taken, c.put_stream-amounts.ensures.taken, taken_next input at s);
      given = omega (arith, given, c.put_stream-amounts.ensures.given, given_next input at s);
    }
