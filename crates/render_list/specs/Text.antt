-- A renderer list: its packets, and their text, one after the other. The surfaces' places are absolute,
-- and None where a surface is absent. A packet that stands only sometimes has a slot, which is None
-- where it doesn't stand, so that each tile has the same fourteen slots.
use Rattle.std.specs.Prelude.{◌≡◌, ◌≤◌, ℕ, ◌+◌, ◌*◌, ◌%◌, ◌||◌, ◌&&◌, not, Bool, true, false, List, [], ◌∷◌, ◌++◌, Option, Some, None, is_some, if◌then◌else◌, slice_index_or, bit_or, length, IsSome}
use Rattle.std.specs.List.{flat_map, range_with_len}
use Rattle.job_format.specs.declared.file.Frame.{Frame}
use Rattle.buffer_table.specs.Table.{most_place}
use Rattle.render_list.specs.declared.slots.{Scene.Scene, Tile.Tile}
use Rattle.packets.specs.declared.packet.Packet.TheVariants.{WaitOnSemaphore, BranchToSubList, StoreTileColor, StoreTileColorAndEnd, StoreFullResolution, LoadFullResolution, StoreTileBuffer, LoadTileBuffer, TileRenderingMode, ClearColors, TileCoordinates}
use Rattle.packets.specs.{declared.packet.Packet.Packet, Packet.slots_text}
use Rattle.field_words.specs.Writes.{with_bytes}
use Rattle.tile_memory.specs.Slots.{alloc_offset}
use Rattle.render_list.specs.Frame.{color_read, color_write, zs_read, zs_write, multisample_color, multisample_zs, place_at, surface_at, is_full, full_place, is_first_tile, is_last_tile, tiles_across, tiles_down, IsSetupFor}

-- The low bits of a full-resolution load's or store's address: colour is left out (1), depth and stencil
-- are left out (2); and of a store's: the tile buffer isn't cleared behind it (4), it ends the frame (8).
abbrev pub without_color : ℕ
without_color = 1

abbrev pub without_zs : ℕ
without_zs = 2

abbrev pub without_clearing : ℕ
without_clearing = 4

-- a general store's address has this bit too
abbrev pub ends_frame : ℕ
ends_frame = 8

-- Bits 13 to 15 of a general store's bits: colour (13) and all else (14, 15) isn't cleared behind it.
abbrev pub keeps_color : ℕ
keeps_color = 8192

abbrev pub keeps_all : ℕ
keeps_all = 57344

-- the number where the test is true, else 0
abbrev pub number_where : Bool → ℕ → ℕ
number_where true number = number
number_where false number = 0

-- the packet where the test is true
abbrev pub packet_where : Bool → Packet → Option Packet
packet_where true packet = Some packet
packet_where false packet = None

-- The head: where colour is written, the frame's size, and colour write's bits. Where it is absent, the
-- place is 0 and of the bits only the multisample bit stays.
abbrev pub color_place : Option ℕ → ℕ
color_place None = 0
color_place (Some place) = place

abbrev pub color_bits : Frame → Option ℕ → ℕ
color_bits frame None = (surface_at frame color_write).bits % 2
color_bits frame (Some place) = (surface_at frame color_write).bits

unfoldable pub head_packet : Frame → List (Option ℕ) → Packet
head_packet frame places = TileRenderingMode (color_place (place_at places color_write)) frame.width frame.height (color_bits frame (place_at places color_write))

-- Where the frame is cleared: the values to clear with, and a tile (0, 0) that stores nothing, by which
-- the hardware takes them.
unfoldable pub clear_packet : Frame → Packet
clear_packet frame = ClearColors (slice_index_or frame.clear_color 0 0) (slice_index_or frame.clear_color 1 0) frame.clear_z frame.clear_s

unfoldable pub clear_slots : Frame → List (Option Packet)
clear_slots frame =
    packet_where frame.clear (clear_packet frame)
    ∷ packet_where frame.clear (TileCoordinates 0 0)
    ∷ packet_where frame.clear (StoreTileBuffer 0 0)
    ∷ []

-- the head, and what clears
unfoldable pub front_slots : Frame → List (Option ℕ) → List (Option Packet)
front_slots frame places = Some (head_packet frame places) ∷ clear_slots frame

-- The load of a tile of surface k, where it is present: in full resolution by its place, with the bit of
-- what is left out; else by its bits and place.
unfoldable pub load_packet : Frame → ℕ → ℕ → ℕ → ℕ → ℕ → Packet
load_packet frame k left_out place x y =
    if is_full k (surface_at frame k) then LoadFullResolution (bit_or (full_place frame place x y) left_out) else LoadTileBuffer (surface_at frame k).bits place

abbrev pub load_slot : Frame → ℕ → ℕ → Option ℕ → ℕ → ℕ → Option Packet
load_slot frame k left_out None x y = None
load_slot frame k left_out (Some place) x y = Some (load_packet frame k left_out place x y)

-- a general store that stores nothing and clears nothing, between two loads
abbrev pub idle_store : Packet
idle_store = StoreTileBuffer keeps_all 0

-- With a binner list the first tile waits for the binner,
abbrev pub wait_slot : Frame → Option (ℕ × ℕ) → ℕ → ℕ → Option Packet
wait_slot frame None x y = None
wait_slot frame (Some grid) x y = packet_where (is_first_tile frame x y) WaitOnSemaphore

-- and each tile runs its own list, which begins in its block of 32 bytes in the tile slot. The blocks lie
-- behind the tiles' states, row by row of the grid.
unfoldable pub list_place : ℕ × ℕ → ℕ → ℕ → ℕ → ℕ
list_place grid slot x y = slot + alloc_offset (grid.0 * grid.1) + 32 * (y * grid.0 + x)

abbrev pub list_slot : Option (ℕ × ℕ) → ℕ → ℕ → ℕ → Option Packet
list_slot None slot x y = None
list_slot (Some grid) slot x y = Some (BranchToSubList (list_place grid slot x y))

-- A full-resolution store of one of the two multisample surfaces, where it is present: what is left out,
-- whether further writes of the tile follow, and whether it ends the frame.
unfoldable pub full_store : Frame → ℕ → ℕ → Bool → ℕ → ℕ → Packet
full_store frame place left_out more x y =
    StoreFullResolution (bit_or (full_place frame place x y) (left_out + number_where more without_clearing + number_where (not more && is_last_tile frame x y) ends_frame))

abbrev pub full_store_slot : Frame → Option ℕ → ℕ → Bool → ℕ → ℕ → Option Packet
full_store_slot frame None left_out more x y = None
full_store_slot frame (Some place) left_out more x y = Some (full_store frame place left_out more x y)

-- the general store of depth and stencil, where it is present
unfoldable pub zs_store : Frame → ℕ → Bool → ℕ → ℕ → Packet
zs_store frame place more x y =
    StoreTileBuffer (bit_or (surface_at frame zs_write).bits (number_where more keeps_color)) (bit_or place (number_where (not more && is_last_tile frame x y) ends_frame))

abbrev pub zs_store_slot : Frame → Option ℕ → Bool → ℕ → ℕ → Option Packet
zs_store_slot frame None more x y = None
zs_store_slot frame (Some place) more x y = Some (zs_store frame place more x y)

-- Colour is the last of a tile's writes, so it ends the frame on the last tile.
unfoldable pub color_store : Frame → ℕ → ℕ → Packet
color_store frame x y = if is_last_tile frame x y then StoreTileColorAndEnd else StoreTileColor

abbrev pub color_store_slot : Frame → Option ℕ → ℕ → ℕ → Option Packet
color_store_slot frame None x y = None
color_store_slot frame (Some place) x y = Some (color_store frame x y)

-- whether a surface is there, whether a further write of the tile follows one, and whether one came before
abbrev pub is_there : List (Option ℕ) → ℕ → Bool
is_there places k = is_some (place_at places k)

unfoldable pub more_after_multisample_zs : List (Option ℕ) → Bool
more_after_multisample_zs places = is_there places zs_write || is_there places color_write

unfoldable pub more_after_multisample_color : List (Option ℕ) → Bool
more_after_multisample_color places = is_there places multisample_zs || more_after_multisample_zs places

unfoldable pub some_before_zs : List (Option ℕ) → Bool
some_before_zs places = is_there places multisample_color || is_there places multisample_zs

unfoldable pub some_before_color : List (Option ℕ) → Bool
some_before_color places = some_before_zs places || is_there places zs_write

-- the coordinates of a tile, where a write is there and another came before it
abbrev pub coordinates_slot : List (Option ℕ) → ℕ → Bool → ℕ → ℕ → Option Packet
coordinates_slot places k some_before x y = packet_where (is_there places k && some_before) (TileCoordinates x y)

-- The loads of the tile at (x, y). Two loads stand apart by coordinates and a store, since a load is done
-- at the next coordinates.
unfoldable pub load_slots : Frame → List (Option ℕ) → ℕ → ℕ → List (Option Packet)
load_slots frame places x y =
    load_slot frame color_read without_zs (place_at places color_read) x y
    ∷ packet_where (is_there places color_read && is_there places zs_read) (TileCoordinates x y)
    ∷ packet_where (is_there places color_read && is_there places zs_read) idle_store
    ∷ load_slot frame zs_read without_color (place_at places zs_read) x y
    ∷ []

-- its coordinates, and its list
unfoldable pub list_slots : Frame → Option (ℕ × ℕ) → ℕ → ℕ → ℕ → List (Option Packet)
list_slots frame grid slot x y =
    Some (TileCoordinates x y)
    ∷ wait_slot frame grid x y
    ∷ list_slot grid slot x y
    ∷ []

-- Its writes that are present, in the order multisample colour, multisample ZS, ZS, colour. All but the
-- first have the coordinates before them.
unfoldable pub write_slots : Frame → List (Option ℕ) → ℕ → ℕ → List (Option Packet)
write_slots frame places x y =
    full_store_slot frame (place_at places multisample_color) without_zs (more_after_multisample_color places) x y
    ∷ coordinates_slot places multisample_zs (is_there places multisample_color) x y
    ∷ full_store_slot frame (place_at places multisample_zs) without_color (more_after_multisample_zs places) x y
    ∷ coordinates_slot places zs_write (some_before_zs places) x y
    ∷ zs_store_slot frame (place_at places zs_write) (is_there places color_write) x y
    ∷ coordinates_slot places color_write (some_before_color places) x y
    ∷ color_store_slot frame (place_at places color_write) x y
    ∷ []

-- the tile in row y at x
unfoldable pub tile_slots : Frame → List (Option ℕ) → Option (ℕ × ℕ) → ℕ → ℕ → ℕ → List (Option Packet)
tile_slots frame places grid slot y x = load_slots frame places x y ++ (list_slots frame grid slot x y ++ write_slots frame places x y)

-- the slots of n numbers in a row, from a first one on
unfoldable pub span_slots : (ℕ → List (Option Packet)) → ℕ → ℕ → List (Option Packet)
span_slots slots first n = flat_map slots (range_with_len first n)

-- the tiles of a row from left to right, and the rows from the smallest to the largest
abbrev pub row_slots : Frame → List (Option ℕ) → Option (ℕ × ℕ) → ℕ → ℕ → List (Option Packet)
row_slots frame places grid slot y = span_slots (tile_slots frame places grid slot y) frame.min_x (tiles_across frame)

abbrev pub all_tile_slots : Frame → List (Option ℕ) → Option (ℕ × ℕ) → ℕ → List (Option Packet)
all_tile_slots frame places grid slot = span_slots (row_slots frame places grid slot) frame.min_y (tiles_down frame)

-- the whole list, with the binner's grid of tiles across and down where there is a binner list, and
-- the place of the tile slot
unfoldable pub render_slots : Frame → List (Option ℕ) → Option (ℕ × ℕ) → ℕ → List (Option Packet)
render_slots frame places grid slot = front_slots frame places ++ all_tile_slots frame places grid slot

unfoldable pub render_text : Frame → List (Option ℕ) → Option (ℕ × ℕ) → ℕ → List ℕ
render_text frame places grid slot = slots_text (render_slots frame places grid slot)

-- A window has room for the slots' text at a place; and what writing it there leaves: the window with the text and no other byte changed,
-- and the place behind it.
abbrev pub HasRoom : List ℕ → ℕ → List (Option Packet) → Type 0
HasRoom window at slots = at + length (slots_text slots) ≤ length window

pub record Puts (slots : List (Option Packet)) (before : List ℕ) (at : ℕ) (after : List ℕ) (end : ℕ) : Type 0 where
  pub text : after ≡ with_bytes before at (slots_text slots)
  pub end_is : end ≡ at + length (slots_text slots)

-- What all tiles are written by is that of a checked frame; and by it the slots of a tile, of a row and of all tiles.
pub record IsScene (scene : Scene) : Type 0 where
  pub setup : IsSetupFor scene.frame scene.setup.places
  pub slot : IsSome scene.tiles → scene.slot ≤ most_place
  pub loads : scene.some_loads ≡ (is_there scene.setup.places color_read || is_there scene.setup.places zs_read)
  pub writes : scene.some_before_color ≡ some_before_color scene.setup.places

abbrev pub tile_in : Scene → Tile → List (Option Packet)
tile_in scene tile = tile_slots scene.frame scene.setup.places scene.tiles scene.slot tile.y tile.x

abbrev pub row_in : Scene → ℕ → List (Option Packet)
row_in scene y = row_slots scene.frame scene.setup.places scene.tiles scene.slot y

abbrev pub tiles_in : Scene → List (Option Packet)
tiles_in scene = all_tile_slots scene.frame scene.setup.places scene.tiles scene.slot
