-- What safety refuses of a packet: each that the hardware leaves undefined where it stands, and a load outside what its job may reach.
use Rattle.std.specs.Prelude.{◌≡◌, ◌⊎◌, ℕ, false, List, slice_index, Option, None, Some}
use Rattle.packets.specs.declared.packet.Packet.TheVariants.{StoreTileColor, StoreTileColorAndEnd, StoreTileBuffer, LoadFullResolution, LoadTileBuffer, BranchToSubList, TileCoordinates}
use Rattle.packets.specs.{declared.packet.Packet.Packet, Opcode.start_tile_binning, Opcode.indexed_primitive_list, Opcode.array_primitive_list}
use Rattle.machine_plan.specs.{Regions.Rights, World.Safe}
use Rattle.list_machine.specs.{declared.state.Frame.Frame, declared.state.Load.Load, declared.surface.Cover.Cover, Cover.cover_for, Surfaces.aligned_address, Surfaces.names_none, Surfaces.whole_size}
use Rattle.list_machine.specs.{declared.state.Load.TheVariants.Full, declared.state.Load.TheVariants.General, Lists.Lists, Renderer.tile_by}
use Rattle.texture_layouts.specs.Format.{general_style, frame_style}
use Rattle.machine.specs.{State.Units, Step.ready, Step.turn}
use Rattle.job_safety.specs.Strength.{IsPast, IsAtBinPacket, IsPart, IsAtPacket}

-- Binning is started before there is a configuration.
abbrev pub BinningsBlindAreUnsafe : Type 0
BinningsBlindAreUnsafe =
    (jobs : List Rights) (m : List ℕ) (u : Units) (j : ℕ) (lists : Lists) → IsAtBinPacket m u j lists
    → slice_index m lists.binner.place ≡ start_tile_binning → lists.binner.kept.config ≡ None
    → Safe ready turn jobs m u → ⊥

-- A primitive stands before binning is started, or before there is a state word.
abbrev pub IsPrimitive : ℕ → Type 0
IsPrimitive opcode = (opcode ≡ indexed_primitive_list) ⊎ (opcode ≡ array_primitive_list)

abbrev pub PrimitivesEarlyAreUnsafe : Type 0
PrimitivesEarlyAreUnsafe =
    (jobs : List Rights) (m : List ℕ) (u : Units) (j : ℕ) (lists : Lists) → IsAtBinPacket m u j lists
    → IsPrimitive (slice_index m lists.binner.place) → (lists.binner.kept.started ≡ false) ⊎ (lists.binner.kept.word ≡ None)
    → Safe ready turn jobs m u → ⊥

-- The renderer is to read such a packet for job j.
abbrev pub IsRefusedPacket : (Lists → Packet → Type 0) → Type 0
IsRefusedPacket Undefined =
    (jobs : List Rights) (m : List ℕ) (u : Units) (j : ℕ) (lists : Lists) (packet : Packet) → IsAtPacket m u j lists packet
    → Undefined lists packet
    → Safe ready turn jobs m u → ⊥

-- a branch into tile lists that aren't closed, or to where no tile's list begins
abbrev pub BranchesNowhere : Lists → Packet → Type 0
BranchesNowhere lists (BranchToSubList address) = (lists.closed ≡ false) ⊎ (tile_by lists.binner.kept.config address ≡ None)
BranchesNowhere lists other = ⊥

-- a load where another one waits
abbrev pub IsLoad : Packet → Type 0
IsLoad (LoadFullResolution address) = Unit {0}
IsLoad (LoadTileBuffer bits address) = Unit {0}
IsLoad other = ⊥

pub record LoadsTwice (lists : Lists) (packet : Packet) : Type 0 where
  pub load : IsLoad packet
  pub waits : Load
  pub waiting_is : lists.renderer.waiting ≡ Some waits

-- the surface of a store by the frame's bits, None before there is a frame or where its bits name no format
abbrev pub frame_cover : Option Frame → ℕ → ℕ → Option Cover
frame_cover None x y = None
frame_cover (Some frame) x y = cover_for (frame_style frame.bits) (Some frame) frame.address x y

-- the surface of a load or store by bits of its own
abbrev pub general_cover : ℕ → ℕ → Option Frame → ℕ → ℕ → Option Cover
general_cover bits address frame x y = cover_for (general_style bits) frame (aligned_address address) x y

-- a store of no surface
abbrev pub StoresNothing : Lists → Packet → Type 0
StoresNothing lists StoreTileColor = frame_cover lists.renderer.frame lists.renderer.x lists.renderer.y ≡ None
StoresNothing lists StoreTileColorAndEnd = frame_cover lists.renderer.frame lists.renderer.x lists.renderer.y ≡ None
StoresNothing lists (StoreTileBuffer bits address) =
    (names_none bits ≡ false) × (general_cover bits address lists.renderer.frame lists.renderer.x lists.renderer.y ≡ None)
StoresNothing lists other = ⊥

-- the load that waits for tile (x, y) has no surface
abbrev pub WaitsForNothing : Option Load → Option Frame → ℕ → ℕ → Type 0
WaitsForNothing None frame x y = ⊥
WaitsForNothing (Some (Full address)) frame x y = ⊥
WaitsForNothing (Some (General bits address)) frame x y = (names_none bits ≡ false) × (general_cover bits address frame x y ≡ None)

abbrev pub LoadsNothing : Lists → Packet → Type 0
LoadsNothing lists (TileCoordinates x y) = WaitsForNothing lists.renderer.waiting lists.renderer.frame x y
LoadsNothing lists other = ⊥

-- the load that waits reads these bytes at tile (x, y)
abbrev pub LoadsAt : Option Load → Option Frame → ℕ → ℕ → ℕ → ℕ → Type 0
LoadsAt None frame x y place len = ⊥
LoadsAt (Some (Full address)) frame x y place len = (place ≡ aligned_address address) × (len ≡ whole_size)
LoadsAt (Some (General bits address)) frame x y place len = (names_none bits ≡ false) × IsPart (general_cover bits address frame x y) place len

-- The coordinates of a tile do the load that waits, some part of which doesn't lie in the job's region.
abbrev pub LoadsPastAreUnsafe : Type 0
LoadsPastAreUnsafe =
    (jobs : List Rights) (m : List ℕ) (u : Units) (j : ℕ) (lists : Lists) (x y : ℕ) → IsAtPacket m u j lists (TileCoordinates x y)
    → (place len : ℕ) → LoadsAt lists.renderer.waiting lists.renderer.frame x y place len → IsPast jobs j place len
    → Safe ready turn jobs m u → ⊥
