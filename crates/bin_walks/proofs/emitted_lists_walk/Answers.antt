use Rattle.bin_walks.proofs.Law.{emitted_lists_walk_law}
use Rattle.bin_walks.proofs.emitted_lists_walk.Goals as goal

pub returns : goal.returns
returns c = emitted_lists_walk_law
