-- The first job with work left.
use Rattle.std.proofs.Common.{◌∙◌, ap, sym}
use Rattle.std.specs.Prelude.{option_map}
use Rattle.list_machine.specs.Binner.{has_binner_work}
use Rattle.machine.specs.State.{picked_in}
use Rattle.machine.proofs.Places.{first_is, found_inside}
use Rattle.machine.proofs.machine.Machine.binner_job.Goals as goal

pub returns-clause-value : goal.returns-clause-value
returns-clause-value c = first_is has_binner_work c.args.self.now.units.jobs ∙ ap (option_map (picked_in c.args.self.now.units.jobs)) (sym c.binner_place.ensures.place)

pub returns-clause-within : goal.returns-clause-within
returns-clause-within c = found_inside has_binner_work c.args.self.now.units.jobs c.binner_place.result c.binner_place.ensures.place c.binner_place.ensures.few
