-- The attribute's handle and words lie in the source.
use Rattle.std.proofs.Common.{arith}
use Rattle.shader_records.proofs.Inside.{source_is, handle_in, attribute_in}
use Rattle.shader_records.proofs.record_text.moved_address.Goals as goal

pub attribute_number-number-requires-clause-inside : goal.attribute_number-number-requires-clause-inside
attribute_number-number-requires-clause-inside c =
    let source = c.args.source in
    omega (arith, handle_in source.state c.args.t c.requires.count, source_is source.state, c.requires.inside)

pub overflow_mul-t : goal.overflow_mul-t
overflow_mul-t c =
    let source = c.args.source in
    omega (arith, attribute_in source.state c.args.t c.requires.count, c.requires.inside, c.requires.fits.records)

pub overflow_add-t : goal.overflow_add-t
overflow_add-t c =
    let source = c.args.source in
    omega (arith, attribute_in source.state c.args.t c.requires.count, c.requires.inside, c.requires.fits.records)

pub record_word-requires-clause-inside : goal.record_word-requires-clause-inside
record_word-requires-clause-inside c =
    let source = c.args.source in
    omega (arith, attribute_in source.state c.args.t c.requires.count, c.requires.inside)
