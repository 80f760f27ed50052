-- What a list without faults promises of its grid and its states.
use Rattle.std.specs.Prelude.{◌≡◌, ◌≤◌, ◌<◌, ℕ, ◌*◌, true, length, All}
use Rattle.tile_memory.specs.Slots.{slot_fits}
use Rattle.bin_list.specs.declared.info.BinInfo.{BinInfo}

-- There is a tile at least, and a tile slot has room for all of them. There are no more states than declared, and each
-- word has its low four bits alone.
pub record IsSoundInfo (declared : ℕ) (info : BinInfo) : Type 0 where
  pub across : 1 ≤ info.tiles_x
  pub down : 1 ≤ info.tiles_y
  pub room : slot_fits (info.tiles_x * info.tiles_y) ≡ true
  pub few : length info.states.items ≤ declared
  pub words : All (λ state. state.word < 16) info.states.items
