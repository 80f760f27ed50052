use Rattle.machine_plan.specs.Regions.{HasReadOnly}
use Rattle.list_law.specs.Laws.{Passes}
use Rattle.list_law.proofs.Start.{lists_begin}
use Rattle.list_law.proofs.lists_begin.Goals as goal

pub returns : goal.returns
returns c = λ r jobs first may c f bin_place render_place packets slots bin render. lists_begin r (HasReadOnly jobs first) (Passes may) c f bin_place render_place packets slots bin render
