-- What is emitted takes no more bytes than its source.
use Rattle.std.proofs.Common.{length, arith}
use Rattle.shader_records.proofs.Lengths.{offset_le, stream_le, record_end, uniform_end}
use Rattle.shader_records.proofs.check.emit.Goals as goal

pub overflow_cast-result : goal.overflow_cast-result
overflow_cast-result c =
    let input = c.args.inputs.now in
    let n = length input.states in
    omega (arith, c.put_records-records.ensures.length, offset_le input n, record_end input n c.requires.fine (omega arith), c.requires.fits.records)

pub overflow_cast-result-2 : goal.overflow_cast-result-2
overflow_cast-result-2 c =
    let input = c.args.inputs.now in
    let n = length input.states in
    omega (arith, c.put_uniforms-uniforms.ensures.length, stream_le input n, uniform_end input n c.requires.fine (omega arith), c.requires.fits.uniforms)
