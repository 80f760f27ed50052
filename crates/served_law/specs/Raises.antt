-- How often a renderer's list waits for the semaphore, and how often the binner's raises it.
use Rattle.std.specs.Prelude.{ℕ, ◌+◌, ◌==◌, if◌then◌else◌, List, [], ◌∷◌, Option, Some, None}
use Rattle.packets.specs.declared.packet.Packet.TheVariants.{WaitOnSemaphore, BranchToSubList, StoreTileColor, StoreTileColorAndEnd, StoreFullResolution, LoadFullResolution, StoreTileBuffer, LoadTileBuffer, TileRenderingMode, ClearColors, TileCoordinates}
use Rattle.packets.specs.{Opcode.increment_semaphore, Opcode.flush, declared.packet.Packet.Packet}
use Rattle.bin_list.specs.Packets.{opcode}

abbrev pub waits_of : Packet → ℕ
waits_of WaitOnSemaphore = 1
waits_of (BranchToSubList address) = 0
waits_of StoreTileColor = 0
waits_of StoreTileColorAndEnd = 0
waits_of (StoreFullResolution address) = 0
waits_of (LoadFullResolution address) = 0
waits_of (StoreTileBuffer bits address) = 0
waits_of (LoadTileBuffer bits address) = 0
waits_of (TileRenderingMode address width height bits) = 0
waits_of (ClearColors first second z stencil) = 0
waits_of (TileCoordinates x y) = 0

abbrev pub waits_in : List (Option Packet) → ℕ
waits_in [] = 0
waits_in (None ∷ slots) = waits_in slots
waits_in (Some packet ∷ slots) = waits_of packet + waits_in slots

-- how often packets of a binner list raise it, where it is to be raised so often already: a flush raises it as often as was asked
abbrev pub raised_by : ℕ → List (List ℕ) → ℕ
raised_by pending [] = 0
raised_by pending (packet ∷ packets) =
    if opcode packet == increment_semaphore then raised_by (pending + 1) packets
    else (if opcode packet == flush then pending + raised_by 0 packets else raised_by pending packets)
