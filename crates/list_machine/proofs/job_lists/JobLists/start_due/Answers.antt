use Rattle.list_machine.proofs.Binning.{due_shows}
use Rattle.list_machine.proofs.job_lists.JobLists.start_due.Goals as goal

pub returns : goal.returns
returns c = record {
  shows = due_shows c.args.reader.now.who c.args.self.now c.set_work.new.self c.args.work.now c.not_due.result c.args.free.now c.args.reader.now.memory.now c.args.accesses.now.items _ c.start_program-launch.result c.start_program-launch.ensures.shows c.not_due.ensures c.set_work.ensures;
}
