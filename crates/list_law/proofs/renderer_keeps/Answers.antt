use Rattle.machine_plan.specs.Regions.{HasReadOnly}
use Rattle.list_law.specs.Laws.{Passes}
use Rattle.list_law.proofs.Rendering.{renderer_keeps}
use Rattle.list_law.proofs.renderer_keeps.Goals as goal

pub returns : goal.returns
returns c = λ who r jobs first may c f s free words m here fine ready. renderer_keeps who r (HasReadOnly jobs first) (Passes may) c f s free words m here fine ready
