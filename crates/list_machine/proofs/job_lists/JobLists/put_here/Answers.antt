use Rattle.list_machine.proofs.Putting.{here_shows}
use Rattle.list_machine.proofs.job_lists.JobLists.put_here.Goals as goal

pub returns-clause-shows : goal.returns-clause-shows
returns-clause-shows c =
    here_shows c.args.who c.args.self.now c.push_item.new.self c.args.item c.args.memory.now _ c.args.accesses.now.items _ c.write_zeros.ensures.items c.write_zeros.ensures.memory c.push_item.ensures
