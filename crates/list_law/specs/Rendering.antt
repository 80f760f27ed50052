-- What stands of a job's renderer.
--
-- The job has one frame f. The rest of the renderer's list is said as packets that walk, by the definitions of those who
-- write it.
use Rattle.std.specs.Prelude.{◌≡◌, ◌<◌, ◌⊎◌, ℕ, ◌+◌, ◌*◌, Bool, true, List, [], ◌∷◌, length, Option, Some, None, option_map, is_some, IfSome}
use Rattle.packets.specs.declared.packet.Packet.TheVariants.{WaitOnSemaphore, BranchToSubList, StoreTileColor, StoreTileColorAndEnd, StoreFullResolution, LoadFullResolution, StoreTileBuffer, LoadTileBuffer, TileRenderingMode, ClearColors, TileCoordinates}
use Rattle.packets.specs.{declared.packet.Packet.Packet, Packet.slots_text, declared.config.Config.Config}
use Rattle.machine_plan.specs.{Memory.bytes_at, Regions.Inside, Regions.Rights}
use Rattle.texture_layouts.specs.{Surface.size_for, declared.format.Style.Style, Format.IsShort, Format.frame_style, Format.general_style}
use Rattle.render_walks.specs.Walks.{View, WalksTo, AllFit}
use Rattle.list_machine.specs.{declared.state.Frame.Frame, declared.state.Load.Load, declared.state.Renderer.Renderer, Blocks.tiles_of}
use Rattle.list_machine.specs.{declared.state.Load.TheVariants.Full, declared.state.Load.TheVariants.General, declared.surface.Cover.Cover}
use Rattle.list_machine.specs.{Cover.part_count, Cover.part_place, Surfaces.aligned_address, Surfaces.names_none, Surfaces.whole_size}
use Rattle.list_law.specs.May.{MayWrite}

-- the bytes of a surface that is as large as the frame
abbrev pub surface_size : Style → Frame → ℕ
surface_size style f = size_for style.tiling f.width f.height style.cpp

-- A surface of this style at this place may be stored: the bits name a style, and the job may write all bytes of the
-- surface. And one may be loaded that lies in the region.
pub record StoresSurface (r : Rights) (style : Option Style) (f : Frame) (base : ℕ) : Type 0 where
  pub style_is : Style
  pub styled : style ≡ Some style_is
  pub pixel : IsShort style_is.cpp
  pub writes : MayWrite r base (surface_size style_is f)

pub record LoadsSurface (r : Rights) (style : Option Style) (f : Frame) (base : ℕ) : Type 0 where
  pub style_is : Style
  pub styled : style ≡ Some style_is
  pub pixel : IsShort style_is.cpp
  pub reads : Inside r.region base (surface_size style_is f)

-- the address is that of a tile's list
pub record IsTileList (c : Config) (address : ℕ) : Type 0 where
  pub tile : ℕ
  pub below : tile < tiles_of c
  pub is : address ≡ c.address + 32 * tile

-- What is asked of a load, a store or a sub-list. Which tile it is done at makes no difference: outside the frame a tile
-- covers nothing.
abbrev pub MayDo : Rights → Config → Frame → Packet → ℕ → ℕ → Type 0
MayDo r c f WaitOnSemaphore x y = Unit {0}
MayDo r c f (BranchToSubList address) x y = IsTileList c address
MayDo r c f StoreTileColor x y = StoresSurface r (frame_style f.bits) f f.address
MayDo r c f StoreTileColorAndEnd x y = StoresSurface r (frame_style f.bits) f f.address
MayDo r c f (StoreFullResolution address) x y = MayWrite r (aligned_address address) whole_size
MayDo r c f (LoadFullResolution address) x y = Inside r.region (aligned_address address) whole_size
MayDo r c f (StoreTileBuffer bits address) x y = (names_none bits ≡ true) ⊎ StoresSurface r (general_style bits) f (aligned_address address)
MayDo r c f (LoadTileBuffer bits address) x y = (names_none bits ≡ true) ⊎ LoadsSurface r (general_style bits) f (aligned_address address)
MayDo r c f (TileRenderingMode address width height bits) x y = Unit {0}
MayDo r c f (ClearColors first second z stencil) x y = Unit {0}
MayDo r c f (TileCoordinates x2 y2) x y = Unit {0}

-- each packet that sets the frame sets this one
abbrev pub SetsOnly : Frame → Packet → Type 0
SetsOnly f WaitOnSemaphore = Unit {0}
SetsOnly f (BranchToSubList address) = Unit {0}
SetsOnly f StoreTileColor = Unit {0}
SetsOnly f StoreTileColorAndEnd = Unit {0}
SetsOnly f (StoreFullResolution address) = Unit {0}
SetsOnly f (LoadFullResolution address) = Unit {0}
SetsOnly f (StoreTileBuffer bits address) = Unit {0}
SetsOnly f (LoadTileBuffer bits address) = Unit {0}
SetsOnly f (TileRenderingMode address width height bits) = record { address = address; width = width; height = height; bits = bits } ≡ f
SetsOnly f (ClearColors first second z stencil) = Unit {0}
SetsOnly f (TileCoordinates x y) = Unit {0}

abbrev pub AllSet : Frame → List (Option Packet) → Type 0
AllSet f [] = Unit {0}
AllSet f (None ∷ slots) = AllSet f slots
AllSet f (Some packet ∷ slots) = SetsOnly f packet × AllSet f slots

-- a load that waits, as its packet
abbrev pub load_packet : Load → Packet
load_packet (Full address) = LoadFullResolution address
load_packet (General bits address) = LoadTileBuffer bits address

-- what the renderer keeps, in the words of those who write its list; whether it waited for the binner isn't kept
abbrev pub view_of : Renderer → Bool → View
view_of r waited = record { framed = is_some r.frame; x = r.x; y = r.y; waiting = option_map load_packet r.waiting; waited = waited }

-- the end of a list asks nothing of the renderer
abbrev pub NoMatter : View → Type 0
NoMatter k = Unit {0}

-- The renderer stands at a packet of its list or at the end, and the rest of the list walks from what it keeps, with
-- numbers that fit their fields and the job's one frame. It stands so in each memory of K, and lies in the region.
pub record RenderWay (r : Rights) (K : List ℕ → Type 0) (c : Config) (f : Frame) (renderer : Renderer) (waited : Bool) : Type 0 where
  pub rest : List (Option Packet)
  pub ends : renderer.place + length (slots_text rest) ≡ renderer.end
  pub walks : WalksTo (MayDo r c f) NoMatter (view_of renderer waited) rest
  pub fit : AllFit rest
  pub sets : AllSet f rest
  pub stands : (m : List ℕ) → K m → bytes_at m renderer.place (length (slots_text rest)) ≡ slots_text rest
  pub reads : Inside r.region renderer.place (length (slots_text rest))
  pub frame : IfSome renderer.frame (λ one. one ≡ f)
  pub inside : IfSome renderer.inside (λ sub. (sub.tile < tiles_of c) × (waited ≡ true))

-- each part of a cover meets M; and there is a cover
abbrev pub PartsMeet : (ℕ → ℕ → Type 0) → Option Cover → Type 0
PartsMeet M None = ⊥
PartsMeet M (Some cover) = (i : ℕ) → i < part_count cover → M (part_place cover i) cover.size
