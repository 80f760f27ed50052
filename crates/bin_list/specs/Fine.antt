-- What a packet without faults promises to its emission.
use Rattle.std.specs.Prelude.{◌≡◌, ◌≤◌, ℕ, ◌+◌, ◌*◌, ◌<◌, ◌^◌, ◌==◌, false, List, length, take, drop, slice_index}
use Rattle.field_words.specs.{Words.u32_at, Sizes.most_list, Sizes.slot_size}
use Rattle.buffer_table.specs.{Handles.IsData, Table.most_place}
use Rattle.packets.specs.Opcode.{flush, start_tile_binning, increment_semaphore, indexed_primitive_list, array_primitive_list, gl_shader_state, tile_binning_mode, buffer_handles}
use Rattle.packets.specs.Length.{bin_length}
use Rattle.tile_memory.specs.Slots.{alloc_offset}
use Rattle.relocation.specs.declared.layout.Layout.{Layout}
use Rattle.bin_list.specs.{declared.seen.Seen.Seen, Packets.opcode, Packets.front_packet, Packets.behind, Rules.GivenModel, Rules.index_buffer}

-- The packet is whole; indexes are read from a data buffer, and begin inside it; the indexes of an array primitive fit a
-- word; a tile slot has room for the grid; a shader state is one of those that the job declares.
pub record IsFine (given : GivenModel) (seen : Seen) (packet : List ℕ) : Type 0 where
  pub whole : bin_length (opcode packet) ≤ length packet
  pub buffer : opcode packet ≡ indexed_primitive_list → IsData given.table given.handles seen.index_handle
  pub indexes : opcode packet ≡ indexed_primitive_list → u32_at packet 6 ≤ (index_buffer given seen).size
  pub array : opcode packet ≡ array_primitive_list → u32_at packet 6 + u32_at packet 2 < 2 ^ 32
  pub grid : opcode packet ≡ tile_binning_mode → alloc_offset (slice_index packet 13 * slice_index packet 14) ≤ slot_size
  pub state : opcode packet ≡ gl_shader_state → seen.states < given.declared

-- a whole packet of a kind that has no rules of its own, tells nothing to later packets, and is copied
pub record IsPlain (packet : List ℕ) : Type 0 where
  pub known : (bin_length (opcode packet) == 0) ≡ false
  pub whole : bin_length (opcode packet) ≤ length packet
  pub no_flush : (opcode packet == flush) ≡ false
  pub no_start : (opcode packet == start_tile_binning) ≡ false
  pub no_increment : (opcode packet == increment_semaphore) ≡ false
  pub no_indexes : (opcode packet == indexed_primitive_list) ≡ false
  pub no_array : (opcode packet == array_primitive_list) ≡ false
  pub no_state : (opcode packet == gl_shader_state) ≡ false
  pub no_config : (opcode packet == tile_binning_mode) ≡ false
  pub no_handles : (opcode packet == buffer_handles) ≡ false

-- the packet at the front of the bytes is plain, and takes so many of them
pub record IsPlainFront (bytes : List ℕ) (n : ℕ) : Type 0 where
  pub some : 1 ≤ n
  pub fits : n ≤ length bytes
  pub packet : take n bytes ≡ front_packet bytes
  pub rest : drop n bytes ≡ behind bytes
  pub plain : IsPlain (front_packet bytes)

-- there are no more states than bytes before, and the record of each takes 144 bytes at most
pub record IsBounded (seen : Seen) : Type 0 where
  pub states : seen.states ≤ seen.at
  pub records : seen.records ≤ 144 * seen.states

-- lists and tile slot begin inside the greatest memory, and the records begin behind a binner list of at most 1 MiB
pub record IsLow (layout : Layout) : Type 0 where
  pub place : layout.place ≤ most_place
  pub records : layout.records ≤ most_list + 16
  pub slot : layout.slot ≤ most_place
