use Rattle.list_machine.proofs.Items.{packet_quiet}
use Rattle.list_machine.proofs.job_lists.JobLists.take_listed.Goals as goal

pub returns-clause-shows : goal.returns-clause-shows
returns-clause-shows g c = packet_quiet c.args.turn.now.who c.args.self.now c.take_packet.new.self (g.C.Choices.listed c.args.turn.now.words.now) c.args.memory.now c.args.accesses.now.items c.take_packet.new.accesses.items c.take_packet.new.memory c.take_packet.result c.take_packet.ensures.shows
