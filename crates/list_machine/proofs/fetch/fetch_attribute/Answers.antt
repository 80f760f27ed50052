use Rattle.std.proofs.Common.{◌∙◌}
use Rattle.list_machine.proofs.Fetching.{attribute_read}
use Rattle.list_machine.proofs.fetch.fetch_attribute.Goals as goal

pub returns-clause-shows : goal.returns-clause-shows
returns-clause-shows c =
    attribute_read c.args.reader.now.who c.args.vertex.word c.args.vertex.index c.args.t c.attribute_place.result c.args.reader.now.memory.now c.deref.result.now c.args.accesses.now.items _ _
    c.attribute_place.ensures.value (c.deref.ensures.0 ∙ c.read_listed-attribute.ensures.value) c.read_listed-attribute.ensures.items c.fetch_extended.ensures.shows
