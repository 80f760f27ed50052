use Rattle.list_machine.proofs.Items.{program_started}
use Rattle.list_machine.proofs.inside.start_item.Goals as goal

pub returns : goal.returns
returns c = λ s. program_started c.args.reader.now.who s c.args.program c.args.free.now c.args.item.now c.args.reader.now.memory.now c.args.accesses.now.items c.start_program.new.accesses.items c.start_program.result c.start_program.ensures.shows
