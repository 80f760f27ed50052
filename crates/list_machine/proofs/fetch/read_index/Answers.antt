use Rattle.std.proofs.Common.{◌∙◌}
use Rattle.list_machine.proofs.Fetching.{index_read}
use Rattle.list_machine.proofs.fetch.read_index.Goals as goal

pub returns-clause-shows : goal.returns-clause-shows
returns-clause-shows c =
    index_read c.args.reader.now.who c.args.primitive.now c.args.k c.index_size-size.result c.index_in.result c.args.reader.now.memory.now c.deref.result.now c.args.accesses.now.items _
    c.requires.indexed c.index_size-size.ensures.value (c.deref.ensures.0 ∙ c.read_listed-bytes.ensures.value) c.read_listed-bytes.ensures.items c.index_in.ensures
