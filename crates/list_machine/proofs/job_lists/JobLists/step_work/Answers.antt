-- Neither due nor with a vertex left: an item.
use Rattle.list_machine.proofs.Binning.{item_shows}
use Rattle.list_machine.proofs.job_lists.JobLists.step_work.Goals as goal

pub returns-else-work-2 : goal.returns-else-work-2
returns-else-work-2 g c = record {
  shows = item_shows c.args.turn.now.who c.args.self.now c.put_item.new.self c.args.work.now c.args.turn.now.free (g.C.Choices.listed c.args.turn.now.words.now) c.args.memory.now c.args.accesses.now.items _ _ c.if-work.false c.if-work-2.false c.put_item.ensures.shows;
}
