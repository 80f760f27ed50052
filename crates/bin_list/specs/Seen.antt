-- What stands before a packet. The packets before it come as a list, the nearest first, so that "the last packet of a
-- kind before this one" is the first of that list.
use Rattle.std.specs.Prelude.{ℕ, ◌+◌, Bool, true, false, ◌==◌, List, [], ◌∷◌, length, slice_index, Option, Some, None, if◌then◌else◌}
use Rattle.field_words.specs.Words.{u32_at}
use Rattle.packets.specs.{StateWord.record_room, Opcode.start_tile_binning, Opcode.gl_shader_state, Opcode.tile_binning_mode, Opcode.buffer_handles}
use Rattle.bin_list.specs.{declared.seen.Seen.Seen, Packets.opcode}

-- the last packet with this opcode
abbrev pub latest : ℕ → List (List ℕ) → Option (List ℕ)
latest o [] = None
latest o (packet ∷ earlier) = if opcode packet == o then Some packet else latest o earlier

abbrev pub is_there : Option (List ℕ) → Bool
is_there None = false
is_there (Some packet) = true

-- the number in the last packet with an opcode at this place of it; 0 where there is none
abbrev pub byte_of : ℕ → Option (List ℕ) → ℕ
byte_of at None = 0
byte_of at (Some packet) = slice_index packet at

abbrev pub word_of : ℕ → Option (List ℕ) → ℕ
word_of at None = 0
word_of at (Some packet) = u32_at packet at

-- the opcode of the packet directly before, and of the one before that; 0 where there is none
abbrev pub last_opcode : List (List ℕ) → ℕ
last_opcode [] = 0
last_opcode (packet ∷ earlier) = opcode packet

abbrev pub before_last : List (List ℕ) → ℕ
before_last [] = 0
before_last (packet ∷ earlier) = last_opcode earlier

-- where the next packet begins
abbrev pub place : List (List ℕ) → ℕ
place [] = 0
place (packet ∷ earlier) = place earlier + length packet

-- how many shader states there are
abbrev pub states_in : List (List ℕ) → ℕ
states_in [] = 0
states_in (packet ∷ earlier) = if opcode packet == gl_shader_state then states_in earlier + 1 else states_in earlier

-- where the next shader state's record is emitted, counted from the first record
abbrev pub records_in : List (List ℕ) → ℕ
records_in [] = 0
records_in (packet ∷ earlier) = if opcode packet == gl_shader_state then records_in earlier + record_room (u32_at packet 1) else records_in earlier

-- all that a packet's rules and its emission ask of what stands before it
unfoldable pub seen_before : List (List ℕ) → Seen
seen_before earlier = record {
  at = place earlier;
  last = last_opcode earlier;
  before_last = before_last earlier;
  configured = is_there (latest tile_binning_mode earlier);
  started = is_there (latest start_tile_binning earlier);
  states = states_in earlier;
  records = records_in earlier;
  index_handle = word_of 1 (latest buffer_handles earlier);
  tiles_x = byte_of 13 (latest tile_binning_mode earlier);
  tiles_y = byte_of 14 (latest tile_binning_mode earlier);
}

-- what is seen one packet later
unfoldable pub seen_after : Seen → List ℕ → Seen
seen_after seen packet = record {
  at = seen.at + length packet;
  last = opcode packet;
  before_last = seen.last;
  configured = (if opcode packet == tile_binning_mode then true else seen.configured);
  started = (if opcode packet == start_tile_binning then true else seen.started);
  states = (if opcode packet == gl_shader_state then seen.states + 1 else seen.states);
  records = (if opcode packet == gl_shader_state then seen.records + record_room (u32_at packet 1) else seen.records);
  index_handle = (if opcode packet == buffer_handles then u32_at packet 1 else seen.index_handle);
  tiles_x = (if opcode packet == tile_binning_mode then slice_index packet 13 else seen.tiles_x);
  tiles_y = (if opcode packet == tile_binning_mode then slice_index packet 14 else seen.tiles_y);
}

-- what is seen behind a packet that tells later ones nothing but its length and its opcode
unfoldable pub seen_past : Seen → List ℕ → Seen
seen_past seen packet = record seen { at = seen.at + length packet; last = opcode packet; before_last = seen.last }
