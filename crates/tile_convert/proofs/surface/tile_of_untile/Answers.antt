use Rattle.tile_convert.proofs.Whole.{tiles_what_was_untiled}
use Rattle.tile_convert.proofs.surface.tile_of_untile.Goals as goal

pub returns : goal.returns
returns c = tiles_what_was_untiled
