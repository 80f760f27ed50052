use Rattle.machine_plan.specs.Regions.{HasReadOnly}
use Rattle.list_law.specs.Laws.{Passes}
use Rattle.list_law.proofs.Rendering.{renderer_looks}
use Rattle.list_law.proofs.renderer_looks.Goals as goal

pub returns : goal.returns
returns c = λ r jobs first may c f s m fine. renderer_looks r (HasReadOnly jobs first) (Passes may) c f s m fine
