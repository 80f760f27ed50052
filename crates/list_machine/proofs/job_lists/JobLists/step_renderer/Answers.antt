-- A renderer that may step outside of tile lists is below its list's end.
use Rattle.std.proofs.Common.{◌∙◌, ap, sym}
use Rattle.list_machine.proofs.Items.{ready_below}
use Rattle.list_machine.proofs.job_lists.JobLists.step_renderer.Goals as goal

pub take_listed-requires-clause-below : goal.take_listed-requires-clause-below
take_listed-requires-clause-below g c = ready_below c.args.self.now c.args.memory.now (sym (ap (λ r. r.inside) c.renderer.ensures.value) ∙ c.in-None.is) c.requires.ready
