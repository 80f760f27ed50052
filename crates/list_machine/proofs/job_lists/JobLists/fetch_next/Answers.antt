use Rattle.list_machine.proofs.Binning.{fetch_shows}
use Rattle.list_machine.proofs.job_lists.JobLists.fetch_next.Goals as goal

pub returns : goal.returns
returns c = record {
  shows = fetch_shows c.args.reader.now.who c.args.self.now c.set_work.new.self c.args.work.now c.one_done.result c.args.reader.now.memory.now c.args.accesses.now.items _ c.fetch_vertex.result c.fetch_vertex.ensures.shows c.one_done.ensures c.set_work.ensures;
}
