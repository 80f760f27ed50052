use Rattle.std.proofs.Common.{IsTrue}
use Rattle.render_walks.proofs.Walking.{render_walks}
use Rattle.render_walks.proofs.renderer_lists_walk.Goals as goal

pub returns : goal.returns
returns c = λ fine frame places grid slot set owes. render_walks (λ p x y. IsTrue (fine p x y)) frame places grid slot set owes
