-- A packet's text is read as this packet, and a reader goes on by its length.
use Rattle.std.proofs.Common.{◌≡◌, length, get_or, Some, refl, ap, ◌∙◌}
use Rattle.std.proofs.lemmas.Nat.{from_le_bytes-to_le_bytes_2, from_le_bytes-to_le_bytes_4}
use Rattle.field_words.specs.Words.{u16_at, u32_at}
use Rattle.packets.specs.declared.packet.Packet.TheVariants.{WaitOnSemaphore, BranchToSubList, StoreTileColor, StoreTileColorAndEnd, StoreFullResolution, LoadFullResolution, StoreTileBuffer, LoadTileBuffer, TileRenderingMode, ClearColors, TileCoordinates}
use Rattle.packets.specs.{declared.packet.Packet.Packet, Packet.packet_text, Packet.packet_decoded, Packet.Fits, Length.render_taken}

-- a number that stands behind the opcode, behind more, or alone
pub decoded_text : (packet : Packet) → Fits packet → packet_decoded (packet_text packet) ≡ Some packet
unfolding packet_decoded packet_text u16_at u32_at
decoded_text WaitOnSemaphore fits = refl
decoded_text (BranchToSubList address) fits = ap (λ a. Some (BranchToSubList a)) (from_le_bytes-to_le_bytes_4 address fits)
decoded_text StoreTileColor fits = refl
decoded_text StoreTileColorAndEnd fits = refl
decoded_text (StoreFullResolution address) fits = ap (λ a. Some (StoreFullResolution a)) (from_le_bytes-to_le_bytes_4 address fits)
decoded_text (LoadFullResolution address) fits = ap (λ a. Some (LoadFullResolution a)) (from_le_bytes-to_le_bytes_4 address fits)
decoded_text (StoreTileBuffer bits address) fits =
    ap (λ b. Some (StoreTileBuffer b (u32_at (packet_text (StoreTileBuffer bits address)) 3))) (from_le_bytes-to_le_bytes_2 bits fits.0)
    ∙ ap (λ a. Some (StoreTileBuffer bits a)) (from_le_bytes-to_le_bytes_4 address fits.1)
decoded_text (LoadTileBuffer bits address) fits =
    ap (λ b. Some (LoadTileBuffer b (u32_at (packet_text (LoadTileBuffer bits address)) 3))) (from_le_bytes-to_le_bytes_2 bits fits.0)
    ∙ ap (λ a. Some (LoadTileBuffer bits a)) (from_le_bytes-to_le_bytes_4 address fits.1)
decoded_text (TileRenderingMode address width height bits) fits =
    let a = from_le_bytes-to_le_bytes_4 address fits.0 in
    let w = from_le_bytes-to_le_bytes_2 width fits.1 in
    let h = from_le_bytes-to_le_bytes_2 height fits.2 in
    let b = from_le_bytes-to_le_bytes_2 bits fits.3 in
    cc
decoded_text (ClearColors first second z stencil) fits =
    let a = from_le_bytes-to_le_bytes_4 first fits.0 in
    let b = from_le_bytes-to_le_bytes_4 second fits.1 in
    let c = from_le_bytes-to_le_bytes_4 z fits.2 in
    cc
decoded_text (TileCoordinates x y) fits = refl

pub taken_text : (packet : Packet) → render_taken (get_or (packet_text packet) 0 0) ≡ length (packet_text packet)
unfolding render_taken packet_text
taken_text WaitOnSemaphore = refl
taken_text (BranchToSubList address) = refl
taken_text StoreTileColor = refl
taken_text StoreTileColorAndEnd = refl
taken_text (StoreFullResolution address) = refl
taken_text (LoadFullResolution address) = refl
taken_text (StoreTileBuffer bits address) = refl
taken_text (LoadTileBuffer bits address) = refl
taken_text (TileRenderingMode address width height bits) = refl
taken_text (ClearColors first second z stencil) = refl
taken_text (TileCoordinates x y) = refl
