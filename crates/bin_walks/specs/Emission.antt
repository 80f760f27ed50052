-- The emitted list as the packets that the binner reads.
use Rattle.std.specs.Prelude.{ℕ, ◌*◌, ◌+◌, ◌-◌, ◌==◌, List, [], ◌∷◌, if◌then◌else◌}
use Rattle.field_words.specs.Sizes.{slot_size}
use Rattle.relocation.specs.declared.layout.Layout.{Layout}
use Rattle.packets.specs.{Opcode.buffer_handles, declared.config.Config.Config}
use Rattle.tile_memory.specs.Slots.{alloc_offset}
use Rattle.bin_list.specs.{Packets.opcode, Seen.seen_before, Rules.GivenModel, Emitted.packet_text}

-- what these packets are emitted as, behind those before them, which come the nearest first; buffer handles are dropped
abbrev pub emission : GivenModel → Layout → List (List ℕ) → List (List ℕ) → List (List ℕ)
emission given layout earlier [] = []
emission given layout earlier (packet ∷ later) =
    if opcode packet == buffer_handles then emission given layout (packet ∷ earlier) later
    else packet_text given layout (seen_before earlier) packet ∷ emission given layout (packet ∷ earlier) later

-- the configuration of a grid in the job's tile slot
abbrev pub config_of : Layout → (across down : ℕ) → Config
config_of layout across down = record {
  address = layout.slot + alloc_offset (across * down);
  size = slot_size - alloc_offset (across * down);
  states = layout.slot;
  tiles_x = across;
  tiles_y = down;
}
