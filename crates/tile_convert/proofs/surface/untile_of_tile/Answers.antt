use Rattle.tile_convert.proofs.Whole.{untiles_what_was_tiled}
use Rattle.tile_convert.proofs.surface.untile_of_tile.Goals as goal

pub returns : goal.returns
returns c = untiles_what_was_tiled
