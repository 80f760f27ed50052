-- The index, and then what it names.
use Rattle.list_machine.proofs.Fetching.{vertex_shows}
use Rattle.list_machine.proofs.fetch.fetch_vertex.Goals as goal

pub returns-clause-shows : goal.returns-clause-shows
returns-clause-shows c =
    vertex_shows c.args.reader.now.who c.args.primitive.now c.args.word c.args.k c.index_of-index.result c.args.reader.now.memory.now c.args.accesses.now.items _ _ c.index_of-index.ensures.shows c.fetch_indexed.ensures.shows
