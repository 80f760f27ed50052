use Rattle.list_machine.proofs.Items.{vertex_fetched}
use Rattle.list_machine.proofs.inside.fetch_item.Goals as goal

pub returns-then-length-ne0 : goal.returns-then-length-ne0
returns-then-length-ne0 g c = λ s.
    vertex_fetched c.args.reader.now.who s c.args.item.now (g.C.Choices.listed c.args.words.now) c.args.reader.now.memory.now c.args.accesses.now.items c.fetch_vertex.new.accesses.items c.fetch_vertex.result c.if-length-ne0.true
    (rw c.word.ensures at c.fetch_vertex.ensures.shows)
