-- What a configuration (112) tells: the place and size of the memory for tile lists, the place of the tiles' states, and
-- the tiles across and down.
use Rattle.std.specs.Prelude.{ℕ, List, slice_index}
use Rattle.field_words.specs.Words.{u32_at}
use Rattle.packets.specs.declared.config.Config.{Config}

unfoldable pub config_in : List ℕ → Config
config_in packet = record {
  address = u32_at packet 1;
  size = u32_at packet 5;
  states = u32_at packet 9;
  tiles_x = slice_index packet 13;
  tiles_y = slice_index packet 14;
}
