-- How many items are put, beside the room for them.
use Rattle.std.specs.Prelude.{◌≤◌, ℕ, zero, suc, ◌+◌, ◌/◌, List, length, Option, Some, None}
use Rattle.packets.specs.declared.config.Config.{Config}
use Rattle.list_machine.specs.{declared.state.Item.Item, Blocks.tiles_of, Blocks.spot_of}
use Rattle.promises.specs.Steps.{items_within}

-- under the configuration that is kept, where one is
abbrev pub room_by : Option Config → ℕ
room_by None = 0
room_by (Some c) = items_within c

-- a number of a tile by how many items it has, of the first n tiles together; and the further blocks that it took for them
abbrev pub on_tiles : (ℕ → ℕ) → List Item → ℕ → ℕ
on_tiles number items zero = 0
on_tiles number items (suc tile) = on_tiles number items tile + number (spot_of tile items).count

abbrev pub further_of : ℕ → ℕ
further_of count = (count + 5) / 7

-- Each item is on a tile, and these took no more further blocks than are taken.
pub record Counted (c : Config) (blocks : ℕ) (items : List Item) : Type 0 where
  pub on : length items ≤ on_tiles (λ n. n) items (tiles_of c)
  pub taken : on_tiles further_of items (tiles_of c) ≤ blocks
