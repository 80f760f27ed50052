use Rattle.list_machine.proofs.Binning.{clear_shows}
use Rattle.list_machine.proofs.job_lists.JobLists.clear_states.Goals as goal

pub returns-clause-shows : goal.returns-clause-shows
returns-clause-shows c =
    clear_shows c.args.who c.args.self.now c.start_binning.new.self c.args.config.now c.tiles_of.result c.args.memory.now _ c.args.accesses.now.items _ c.tiles_of.ensures.value c.write_zeros.ensures.items c.write_zeros.ensures.memory c.start_binning.ensures
