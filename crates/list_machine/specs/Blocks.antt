-- The blocks of memory in which tile lists lie, and how an item is put on one.
--
-- Tile t has the 32 bytes at the allocation's address plus 32t for its first item. Further items lie in
-- blocks of 128 bytes, seven in each, which tiles take as they need them. An item has 16 bytes; the last
-- 16 bytes of a block link to the tile's next one.
use Rattle.std.specs.Prelude.{◌≡◌, ◌<◌, ℕ, ◌+◌, ◌*◌, ◌%◌, ◌==◌, nat_le, Bool, if◌then◌else◌, List, [], ◌∷◌, length, replicate, slice_index_or}
use Rattle.field_words.specs.Words.{rounded_up}
use Rattle.machine_plan.specs.Plan.{Plan, Done, Writes}
use Rattle.list_machine.specs.{State.Config, State.Item, State.Spot, State.Work, Lists.Lists, Lists.with_item, Lists.with_block}

-- how many tiles a config has
unfoldable pub tiles_of : Config → ℕ
tiles_of c = c.tiles_x * c.tiles_y

-- where the further blocks begin in the allocation, behind the first ones
unfoldable pub further_offset : Config → ℕ
further_offset c = rounded_up (32 * tiles_of c) 128

-- where the next further block lies, with so many taken
unfoldable pub block_place : Config → ℕ → ℕ
block_place c blocks = c.address + further_offset c + 128 * blocks

-- that block lies inside the allocation
unfoldable pub has_room : Config → ℕ → Bool
has_room c blocks = nat_le (further_offset c + 128 * (blocks + 1)) c.size

-- an empty tile list
abbrev pub no_spot : Spot
no_spot = record { count = 0; last = 0 }

-- a tile's list with one more item at this place
abbrev pub one_more : Spot → ℕ → Spot
one_more spot place = record { count = spot.count + 1; last = place }

-- what a tile's list has, with one of the job's items more
abbrev pub spot_with : ℕ → Spot → Item → Spot
spot_with tile spot item = if item.tile == tile then one_more spot item.place else spot

-- and with all of these
abbrev pub spot_in : ℕ → Spot → List Item → Spot
spot_in tile spot [] = spot
spot_in tile spot (item ∷ items) = spot_in tile (spot_with tile spot item) items

abbrev pub spot_of : ℕ → List Item → Spot
spot_of tile items = spot_in tile no_spot items

-- as many tiles as a grid may have, and the one behind them
abbrev pub most_tiles : ℕ
most_tiles = 65026

-- what is kept of each tile's list beside the items of all lists
pub record AreSpotsOf (items : List Item) (spots : List Spot) : Type 0 where
  pub long : length spots ≡ most_tiles
  pub each : (tile : ℕ) → tile < most_tiles → slice_index_or spots tile no_spot ≡ spot_of tile items

-- the first block is full with one item, and each further one with seven
unfoldable pub is_full : Spot → Bool
is_full spot = spot.count % 7 == 1

-- where an item goes whose tile needs no further block
unfoldable pub next_place : Config → ℕ → Spot → ℕ
next_place c tile spot = if spot.count == 0 then c.address + 32 * tile else spot.last + 16

-- where the link of a full block goes
unfoldable pub link_place : Spot → ℕ
link_place spot = spot.last + 16

-- the item that is put on a tile for the primitive in work
abbrev pub item_of : Work → ℕ → ℕ → Item
item_of w tile place = record { tile = tile; place = place; word = w.word; primitive = w.primitive }

-- what is written of an item or a link is zeros; the item itself is kept
abbrev pub zeros : ℕ → List ℕ
zeros n = replicate n 0

abbrev pub item_put : Lists → Item → Plan Lists
item_put s item = Writes item.place (zeros 16) (Done (with_item s item))

unfoldable pub put_here : Lists → Work → ℕ → ℕ → Plan Lists
put_here s w tile place = item_put s (item_of w tile place)

-- Where the tile's block is full, the link is written and the next further block taken. Then the item is
-- written.
unfoldable pub put_plan : Lists → Config → Work → ℕ → Spot → Plan Lists
put_plan s c w tile spot =
    if is_full spot then Writes (link_place spot) (zeros 16) (put_here (with_block s) w tile (block_place c s.blocks))
    else put_here s w tile (next_place c tile spot)
