-- A first word is at most a page past its buffer's size, and the buffer ends within the greatest memory.
use Rattle.std.proofs.Common.{◌<◌, ◌^◌, arith, ◌∙◌, ap}
use Rattle.qpu_isa.specs.Shader.{shader_view, sample_at, first_position}
use Rattle.shader_records.specs.Sources.{source_word}
use Rattle.shader_records.proofs.StreamFacts.{base_fits}
use Rattle.shader_records.proofs.stream_text.moved_word.Goals as goal
use Rattle.buffer_table.specs.Handles.{size_in}

pub relocated-requires : goal.relocated-requires
relocated-requires c =
    let shader = shader_view c.args.info.now in
    let same = c.source_word-word.ensures ∙ ap (source_word c.args.inputs.now c.args.from shader) c.first_position.ensures.value in
    let fits : source_word c.args.inputs.now c.args.from shader (first_position (sample_at shader c.args.i)) < 2 ^ 32 = omega (arith, same) in
    let base = base_fits c.args.inputs.now c.args.from shader c.args.i c.requires.shaped c.requires.inside c.requires.fine fits in
    let size = ap (size_in c.args.inputs.now.table) c.sample_number.ensures.value in
    omega (arith, same, base, size, c.place_of.ensures.limit)
