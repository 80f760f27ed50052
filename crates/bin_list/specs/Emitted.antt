-- The binner list that the hardware is given, packet by packet.
use Rattle.std.specs.Prelude.{ℕ, ◌+◌, ◌-◌, ◌*◌, ◌%◌, ◌==◌, List, [], ◌∷◌, ◌++◌, slice_index, if◌then◌else◌}
use Rattle.std.specs.Int.{to_le_bytes, w32}
use Rattle.field_words.specs.{Sizes.slot_size, Words.u32_at, Writes.with_bytes}
use Rattle.buffer_table.specs.Table.{TableModel}
use Rattle.relocation.specs.declared.layout.Layout.{Layout}
use Rattle.packets.specs.Opcode.{indexed_primitive_list, gl_shader_state, tile_binning_mode, buffer_handles}
use Rattle.tile_memory.specs.Slots.{alloc_offset}
use Rattle.bin_list.specs.{declared.seen.Seen.Seen, Packets.opcode, Packets.packets_passed, Seen.seen_before, Rules.GivenModel, Rules.given_of, Rules.index_buffer}

-- the address of the indexes, an offset in their buffer, becomes a place in memory
unfoldable pub index_text : GivenModel → Seen → List ℕ → List ℕ
index_text given seen packet = with_bytes packet 6 (to_le_bytes w32 ((index_buffer given seen).place + u32_at packet 6))

-- a shader state's word becomes the place of its emitted record, which is a multiple of 16, plus the word
unfoldable pub state_text : Layout → Seen → List ℕ → List ℕ
state_text layout seen packet = gl_shader_state ∷ to_le_bytes w32 (layout.place + layout.records + seen.records + u32_at packet 1 % 16)

-- a configuration names the parts of the job's tile slot
unfoldable pub config_text : Layout → List ℕ → List ℕ
config_text layout packet =
    let start = alloc_offset (slice_index packet 13 * slice_index packet 14) in
    tile_binning_mode ∷ (to_le_bytes w32 (layout.slot + start) ++ (to_le_bytes w32 (slot_size - start) ++ (to_le_bytes w32 layout.slot
    ++ (slice_index packet 13 ∷ (slice_index packet 14 ∷ ((slice_index packet 15 % 2 + 68) ∷ []))))))

-- what a packet is emitted as: buffer handles are dropped, all but these three kinds are copied
unfoldable pub packet_text : GivenModel → Layout → Seen → List ℕ → List ℕ
packet_text given layout seen packet =
    if opcode packet == buffer_handles then []
    else (if opcode packet == indexed_primitive_list then index_text given seen packet
    else (if opcode packet == gl_shader_state then state_text layout seen packet
    else (if opcode packet == tile_binning_mode then config_text layout packet
    else packet)))

-- what these packets are emitted as, which come the nearest first
abbrev pub texts : GivenModel → Layout → List (List ℕ) → List ℕ
texts given layout [] = []
texts given layout (packet ∷ earlier) = texts given layout earlier ++ packet_text given layout (seen_before earlier) packet

-- the emitted list
abbrev pub bin_text : List ℕ → ℕ → TableModel → List ℕ → Layout → List ℕ
bin_text list declared table handles layout = texts (given_of list declared table handles) layout (packets_passed list)
