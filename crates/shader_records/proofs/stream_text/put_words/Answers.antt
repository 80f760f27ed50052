use Rattle.std.proofs.Common.{◌≡◌, ◌+◌, ◌*◌, length, sym, ap, ◌∙◌, arith}
use Rattle.field_words.specs.{Writes.with_bytes}
use Rattle.field_words.proofs.WordBytes.{same_words, put_word}
use Rattle.std.specs.Int.{to_le_bytes, w32}
use Rattle.qpu_isa.specs.Shader.{shader_view, sample_at, first_position, address_at}
use Rattle.shader_records.specs.{Sources.source_word, Emission.moved_word, Emission.addressed_word}
use Rattle.shader_records.proofs.StreamFacts.{moved_none, moved_here, moved_others, addressed_none, addressed_here, addressed_others}
use Rattle.shader_records.proofs.stream_text.put_words.Goals as goal

pub loop-i-init : goal.loop-i-init
loop-i-init c =
    let shader = shader_view c.args.info.now in
    c.put_source.ensures
    ∙ ap (λ t. with_bytes c.args.out.now c.args.stream.base t)
    (same_words (source_word c.args.inputs.now c.args.stream.from shader) (moved_word c.args.inputs.now c.args.stream.from shader 0) shader.uniforms
    (λ k below. moved_none c.args.inputs.now c.args.stream.from shader k))

pub loop-i-preserved : goal.loop-i-preserved
loop-i-preserved c =
    let shader = shader_view c.args.info.now in
    let first = c.first_position.ensures in
    put_word c.args.out.now c.args.stream.base (moved_word c.args.inputs.now c.args.stream.from shader c.loop-i.i) (moved_word c.args.inputs.now c.args.stream.from shader (c.loop-i.i + 1))
    shader.uniforms (first_position (sample_at shader c.loop-i.i)) c.loop-i.out c.put_u32.new.bytes c.moved_word-word.result c.loop-i.invariant
    (c.moved_word-word.ensures ∙ sym (moved_here c.args.inputs.now c.args.stream.from shader c.loop-i.i))
    (c.put_u32.ensures ∙ ap (λ k. with_bytes c.loop-i.out (c.args.stream.base + 4 * k) (to_le_bytes w32 c.moved_word-word.result)) first.value)
    c.requires.room (omega (arith, first.value, first.below))
    (λ k below other. moved_others c.args.inputs.now c.args.stream.from shader c.loop-i.i k other)

pub loop-j-init : goal.loop-j-init
loop-j-init c =
    let shader = shader_view c.args.info.now in
    let done : c.loop-i.i ≡ length shader.samples = omega (arith, c.loop-i-test.false, c.loop-i.auto.i-end, c.len-i-end.ensures) in
    c.loop-i.invariant
    ∙ ap (λ t. with_bytes c.args.out.now c.args.stream.base t)
    (same_words (moved_word c.args.inputs.now c.args.stream.from shader c.loop-i.i) (addressed_word c.args.inputs.now c.args.stream.from shader c.args.stream.place 0) shader.uniforms
    (λ k below.
    ap (λ n. moved_word c.args.inputs.now c.args.stream.from shader n k) done
    ∙ sym (addressed_none c.args.inputs.now c.args.stream.from shader c.args.stream.place k)))

pub loop-j-preserved : goal.loop-j-preserved
loop-j-preserved c =
    let shader = shader_view c.args.info.now in
    let here = c.address_word.ensures in
    put_word c.args.out.now c.args.stream.base (addressed_word c.args.inputs.now c.args.stream.from shader c.args.stream.place c.loop-j.j) (addressed_word c.args.inputs.now c.args.stream.from shader c.args.stream.place (c.loop-j.j + 1))
    shader.uniforms (address_at shader c.loop-j.j) c.loop-j.out c.put_u32-in-loop-j.new.bytes c.args.stream.place c.loop-j.invariant
    (addressed_here c.args.inputs.now c.args.stream.from shader c.args.stream.place c.loop-j.j)
    (c.put_u32-in-loop-j.ensures ∙ ap (λ k. with_bytes c.loop-j.out (c.args.stream.base + 4 * k) (to_le_bytes w32 c.args.stream.place)) here.value)
    c.requires.room (omega (arith, here.value, here.below))
    (λ k below other. addressed_others c.args.inputs.now c.args.stream.from shader c.args.stream.place c.loop-j.j k other)
