-- By the test of the setup words.
use Rattle.std.proofs.Common.{◌∙◌, sym, slice_index}
use Rattle.qpu_machine.proofs.Asking.{texture_undefined, texture_listed}
use Rattle.qpu_machine.proofs.request.serve_texture.Goals as goal

pub returns-then-is_undefined : goal.returns-then-is_undefined
returns-then-is_undefined g c =
    let four = c.args.four.now in
    texture_undefined c.args.reader.now.who (slice_index four 0) (slice_index four 1) (slice_index four 2) (slice_index four 3) (g.C.Choices.listed c.args.words.now) c.args.reader.now.memory.now c.args.accesses.now.items c.list_access.new.accesses.items
    (sym c.is_undefined.ensures.value ∙ c.if-is_undefined.true) c.list_access.ensures.items

pub returns : goal.returns
returns g c =
    let four = c.args.four.now in
    texture_listed c.args.reader.now.who c.of-texture.result (slice_index four 0) (slice_index four 1) (slice_index four 2) (slice_index four 3) (g.C.Choices.listed c.args.words.now) c.args.reader.now.memory.now c.args.accesses.now.items c.list_texels.new.accesses.items _
    (sym c.is_undefined.ensures.value ∙ c.if-is_undefined.false) c.of-texture.ensures.decoded c.list_texels.ensures
