-- How a renderer goes through the slots of a list, packet by packet.
use Rattle.std.specs.Prelude.{◌≡◌, ◌≤◌, ◌<◌, ◌^◌, ℕ, Bool, true, false, List, [], ◌∷◌, Option, Some, None}
use Rattle.job_format.specs.declared.file.Frame.{Frame}
use Rattle.packets.specs.declared.packet.Packet.TheVariants.{WaitOnSemaphore, BranchToSubList, StoreTileColor, StoreTileColorAndEnd, StoreFullResolution, LoadFullResolution, StoreTileBuffer, LoadTileBuffer, TileRenderingMode, ClearColors, TileCoordinates}
use Rattle.packets.specs.{declared.packet.Packet.Packet, Packet.Fits}
use Rattle.render_list.specs.{Frame.place_at, Text.tile_slots}

-- What a renderer keeps from packet to packet, as far as a later packet needs it: whether a frame is
-- set, the tile, the load that waits for the next coordinates, and whether it waited for the binner.
pub record View : Type 0 where
  pub framed : Bool
  pub x : ℕ
  pub y : ℕ
  pub waiting : Option Packet
  pub waited : Bool

abbrev pub at_start : View
at_start = record { framed = false; x = 0; y = 0; waiting = None; waited = false }

abbrev pub pass : View → Packet → View
pass k WaitOnSemaphore = record k { waited = true }
pass k (BranchToSubList address) = k
pass k StoreTileColor = k
pass k StoreTileColorAndEnd = k
pass k (StoreFullResolution address) = k
pass k (LoadFullResolution address) = record k { waiting = Some (LoadFullResolution address) }
pass k (StoreTileBuffer bits address) = k
pass k (LoadTileBuffer bits address) = record k { waiting = Some (LoadTileBuffer bits address) }
pass k (TileRenderingMode address width height bits) = record k { framed = true }
pass k (ClearColors first second z stencil) = k
pass k (TileCoordinates x y) = record k { x = x; y = y; waiting = None }

-- `Fine packet x y` is whatever is asked of a load, a store or a sub-list that is done at the tile (x, y).
-- A waiting load is done at the next coordinates.
abbrev pub IsDoneAt : (Packet → ℕ → ℕ → Type 0) → Option Packet → ℕ → ℕ → Type 0
IsDoneAt Fine None x y = Unit {0}
IsDoneAt Fine (Some load) x y = Fine load x y

-- Where the renderer stands so, the packet does no harm: no load is lost, a load or store is fine at the
-- tile where it is done, and comes behind the head, and a sub-list comes behind the wait.
abbrev pub Tame : (Packet → ℕ → ℕ → Type 0) → View → Packet → Type 0
Tame Fine k WaitOnSemaphore = Unit {0}
Tame Fine k (BranchToSubList address) = (k.waited ≡ true) × Fine (BranchToSubList address) k.x k.y
Tame Fine k StoreTileColor = (k.framed ≡ true) × Fine StoreTileColor k.x k.y
Tame Fine k StoreTileColorAndEnd = (k.framed ≡ true) × Fine StoreTileColorAndEnd k.x k.y
Tame Fine k (StoreFullResolution address) = (k.framed ≡ true) × Fine (StoreFullResolution address) k.x k.y
Tame Fine k (LoadFullResolution address) = k.waiting ≡ None
Tame Fine k (StoreTileBuffer bits address) = (k.framed ≡ true) × Fine (StoreTileBuffer bits address) k.x k.y
Tame Fine k (LoadTileBuffer bits address) = k.waiting ≡ None
Tame Fine k (TileRenderingMode address width height bits) = Unit {0}
Tame Fine k (ClearColors first second z stencil) = Unit {0}
Tame Fine k (TileCoordinates x y) = (k.framed ≡ true) × IsDoneAt Fine k.waiting x y

-- Each packet of the slots is tame where the renderer then stands, and at the end it stands as I says.
abbrev pub WalksTo : (Packet → ℕ → ℕ → Type 0) → (View → Type 0) → View → List (Option Packet) → Type 0
WalksTo Fine I k [] = I k
WalksTo Fine I k (None ∷ slots) = WalksTo Fine I k slots
WalksTo Fine I k (Some packet ∷ slots) = Tame Fine k packet × WalksTo Fine I (pass k packet) slots

-- each packet of the slots is fine at the tile (x, y)
abbrev pub IsSlotFine : (Packet → ℕ → ℕ → Type 0) → ℕ → ℕ → Option Packet → Type 0
IsSlotFine Fine x y None = Unit {0}
IsSlotFine Fine x y (Some packet) = Fine packet x y

abbrev pub AreFine : (Packet → ℕ → ℕ → Type 0) → ℕ → ℕ → List (Option Packet) → Type 0
AreFine Fine x y [] = Unit {0}
AreFine Fine x y (slot ∷ slots) = IsSlotFine Fine x y slot × AreFine Fine x y slots

-- What a frame's tiles owe: each is fine at its own coordinates, and so is the store that stores nothing
-- at the tile (0, 0), by which a frame is cleared.
pub record OwesFine (Fine : Packet → ℕ → ℕ → Type 0) (frame : Frame) (places : List (Option ℕ)) (grid : Option (ℕ × ℕ)) (slot : ℕ) : Type 0 where
  pub tiles : (x y : ℕ) → frame.min_x ≤ x → x ≤ frame.max_x → frame.min_y ≤ y → y ≤ frame.max_y → AreFine Fine x y (tile_slots frame places grid slot y x)
  pub clears : Fine (StoreTileBuffer 0 0) 0 0

-- Between two tiles: a frame is set, no load waits, and where it must have waited it has.
pub record IsBetween (must : Bool) (k : View) : Type 0 where
  pub framed : k.framed ≡ true
  pub idle : k.waiting ≡ None
  pub waited : must ≡ true → k.waited ≡ true

-- Each field of each packet is within its width, so the packet's bytes are read as this packet again.
abbrev pub SlotFits : Option Packet → Type 0
SlotFits None = Unit {0}
SlotFits (Some packet) = Fits packet

abbrev pub AllFit : List (Option Packet) → Type 0
AllFit [] = Unit {0}
AllFit (slot ∷ slots) = SlotFits slot × AllFit slots

-- each place of a surface is a number of four bytes, and so many tiles a binner's grid may have
abbrev pub PlacesFit : List (Option ℕ) → Type 0
PlacesFit places = (k place : ℕ) → place_at places k ≡ Some place → place < 2 ^ 32

abbrev pub GridFits : Option (ℕ × ℕ) → Type 0
GridFits None = Unit {0}
GridFits (Some grid) = (grid.0 < 256) × (grid.1 < 256)
