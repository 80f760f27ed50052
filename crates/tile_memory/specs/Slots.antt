-- The slots of tile memory, and what stands in one.
use Rattle.std.specs.Prelude.{ℕ, ◌+◌, ◌*◌, Bool, nat_le}
use Rattle.field_words.specs.{Sizes.page_size, Sizes.slot_size, Words.rounded_up}

-- slots lie one after another
abbrev pub slot_place : (tile_place slot : ℕ) → ℕ
slot_place tile_place slot = tile_place + slot_size * slot

-- 48 bytes of state a tile, up to the next page; there the tile lists begin
unfoldable pub alloc_offset : (tiles : ℕ) → ℕ
alloc_offset tiles = rounded_up (48 * tiles) page_size

-- there is room for the states and for the first block, of 32 bytes, of each tile list
unfoldable pub slot_fits : (tiles : ℕ) → Bool
slot_fits tiles = nat_le (alloc_offset tiles + 32 * tiles) slot_size
