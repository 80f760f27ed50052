use Rattle.std.proofs.Common.{◌∙◌, sym}
use Rattle.list_machine.proofs.Fetching.{extension_read, no_extension}
use Rattle.list_machine.proofs.fetch.fetch_extended.Goals as goal

pub returns-then-is_extended-clause-shows : goal.returns-then-is_extended-clause-shows
returns-then-is_extended-clause-shows c =
    extension_read c.args.reader.now.who c.args.vertex.word c.args.vertex.index c.args.t c.extension_place.result c.read_word-extension.result c.args.attribute.now c.args.reader.now.memory.now c.args.accesses.now.items _ _
    (sym c.is_extended.ensures ∙ c.if-is_extended.true) c.extension_place.ensures.value c.read_word-extension.ensures.value c.read_word-extension.ensures.items c.fetch_data.ensures.shows

pub returns-else-is_extended-clause-shows : goal.returns-else-is_extended-clause-shows
returns-else-is_extended-clause-shows c =
    no_extension c.args.reader.now.who c.args.vertex.word c.args.vertex.index c.args.t c.args.attribute.now c.args.reader.now.memory.now c.args.accesses.now.items _ (sym c.is_extended.ensures ∙ c.if-is_extended.false) c.fetch_data-else-is_extended.ensures.shows
