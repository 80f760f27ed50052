-- The packets of a renderer list, and their bytes.
use Rattle.std.specs.Prelude.{◌<◌, ◌^◌, ℕ, ◌==◌, List, [], ◌∷◌, ◌++◌, Option, Some, None, if◌then◌else◌, slice_index}
use Rattle.field_words.specs.{Words.u16_at, Words.u32_at, WordBytes.half, WordBytes.word}
use Rattle.packets.specs.declared.packet.Packet.TheVariants.{WaitOnSemaphore, BranchToSubList, StoreTileColor, StoreTileColorAndEnd, StoreFullResolution, LoadFullResolution, StoreTileBuffer, LoadTileBuffer, TileRenderingMode, ClearColors, TileCoordinates}
use Rattle.packets.specs.Opcode.{wait_on_semaphore, branch_to_sub_list, store_tile_color, store_tile_color_and_end, store_full_resolution, load_full_resolution, store_tile_buffer, load_tile_buffer, tile_rendering_mode, clear_colors, tile_coordinates}
use Rattle.packets.specs.declared.packet.Packet.{Packet}

-- the opcode, and behind it the fields in order
unfoldable pub packet_text : Packet → List ℕ
packet_text WaitOnSemaphore = wait_on_semaphore ∷ []
packet_text (BranchToSubList address) = branch_to_sub_list ∷ word address
packet_text StoreTileColor = store_tile_color ∷ []
packet_text StoreTileColorAndEnd = store_tile_color_and_end ∷ []
packet_text (StoreFullResolution address) = store_full_resolution ∷ word address
packet_text (LoadFullResolution address) = load_full_resolution ∷ word address
packet_text (StoreTileBuffer bits address) = store_tile_buffer ∷ (half bits ++ word address)
packet_text (LoadTileBuffer bits address) = load_tile_buffer ∷ (half bits ++ word address)
packet_text (TileRenderingMode address width height bits) = tile_rendering_mode ∷ (word address ++ (half width ++ (half height ++ half bits)))
packet_text (ClearColors first second z stencil) = clear_colors ∷ (word first ++ (word second ++ (word z ++ (stencil ∷ []))))
packet_text (TileCoordinates x y) = tile_coordinates ∷ x ∷ y ∷ []

-- each field is within its width
abbrev pub Fits : Packet → Type 0
Fits WaitOnSemaphore = Unit {0}
Fits (BranchToSubList address) = address < 2 ^ 32
Fits StoreTileColor = Unit {0}
Fits StoreTileColorAndEnd = Unit {0}
Fits (StoreFullResolution address) = address < 2 ^ 32
Fits (LoadFullResolution address) = address < 2 ^ 32
Fits (StoreTileBuffer bits address) = (bits < 2 ^ 16) × (address < 2 ^ 32)
Fits (LoadTileBuffer bits address) = (bits < 2 ^ 16) × (address < 2 ^ 32)
Fits (TileRenderingMode address width height bits) = (address < 2 ^ 32) × (width < 2 ^ 16) × (height < 2 ^ 16) × (bits < 2 ^ 16)
Fits (ClearColors first second z stencil) = (first < 2 ^ 32) × (second < 2 ^ 32) × (z < 2 ^ 32) × (stencil < 2 ^ 8)
Fits (TileCoordinates x y) = (x < 2 ^ 8) × (y < 2 ^ 8)

-- the packet of this opcode whose bytes these are; None where no packet of a renderer list has it
abbrev pub packet_named : ℕ → List ℕ → Option Packet
packet_named o bytes =
    if o == wait_on_semaphore then Some WaitOnSemaphore
    else (if o == branch_to_sub_list then Some (BranchToSubList (u32_at bytes 1))
    else (if o == store_tile_color then Some StoreTileColor
    else (if o == store_tile_color_and_end then Some StoreTileColorAndEnd
    else (if o == store_full_resolution then Some (StoreFullResolution (u32_at bytes 1))
    else (if o == load_full_resolution then Some (LoadFullResolution (u32_at bytes 1))
    else (if o == store_tile_buffer then Some (StoreTileBuffer (u16_at bytes 1) (u32_at bytes 3))
    else (if o == load_tile_buffer then Some (LoadTileBuffer (u16_at bytes 1) (u32_at bytes 3))
    else (if o == tile_rendering_mode then Some (TileRenderingMode (u32_at bytes 1) (u16_at bytes 5) (u16_at bytes 7) (u16_at bytes 9))
    else (if o == clear_colors then Some (ClearColors (u32_at bytes 1) (u32_at bytes 5) (u32_at bytes 9) (slice_index bytes 13))
    else (if o == tile_coordinates then Some (TileCoordinates (slice_index bytes 1) (slice_index bytes 2))
    else None))))))))))

-- The packet that the bytes are, by the first of them. Bytes past the end count as zero.
unfoldable pub packet_decoded : List ℕ → Option Packet
packet_decoded bytes = packet_named (slice_index bytes 0) bytes

-- the texts of the packets that are there, one after the other
abbrev pub slots_text : List (Option Packet) → List ℕ
slots_text [] = []
slots_text (None ∷ slots) = slots_text slots
slots_text (Some packet ∷ slots) = packet_text packet ++ slots_text slots
