-- The first job with work left.
use Rattle.std.proofs.Common.{◌∙◌, ap, sym}
use Rattle.std.specs.Prelude.{option_map}
use Rattle.list_machine.specs.Renderer.{has_renderer_work}
use Rattle.machine.specs.State.{picked_in}
use Rattle.machine.proofs.Places.{first_is, found_inside}
use Rattle.machine.proofs.machine.Machine.renderer_job.Goals as goal

pub returns-clause-value : goal.returns-clause-value
returns-clause-value c = first_is has_renderer_work c.args.self.now.units.jobs ∙ ap (option_map (picked_in c.args.self.now.units.jobs)) (sym c.renderer_place.ensures.place)

pub returns-clause-within : goal.returns-clause-within
returns-clause-within c = found_inside has_renderer_work c.args.self.now.units.jobs c.renderer_place.result c.renderer_place.ensures.place c.renderer_place.ensures.few
