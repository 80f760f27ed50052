use Rattle.render_walks.proofs.Numbers.{render_fits}
use Rattle.render_walks.proofs.renderer_lists_fit.Goals as goal

pub returns : goal.returns
returns c = λ frame places grid slot numbers setup fits grid_fits low. render_fits frame places grid slot numbers setup fits grid_fits low
