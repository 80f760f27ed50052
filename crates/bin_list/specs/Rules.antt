-- The rules of a binner list. Each is a question at a packet, or at the list's end; the order of the questions is that
-- of refusal, by place and then by number.
use Rattle.std.specs.Prelude.{ℕ, ◌+◌, ◌*◌, ◌/◌, ◌^◌, not, ◌||◌, ◌&&◌, nat_lt, nat_le, ◌==◌, List, [], ◌∷◌, ◌++◌, length, slice_index, is_some, bit_and, if◌then◌else◌}
use Rattle.field_words.specs.{Words.u32_at, Questions.Question, Questions.Ask, Questions.with_answers}
use Rattle.buffer_table.specs.{declared.buffer.Buffer.Buffer, Table.TableModel, Table.buffer_at, Handles.data_of}
use Rattle.packets.specs.Opcode.{flush, start_tile_binning, increment_semaphore, indexed_primitive_list, array_primitive_list, gl_shader_state, tile_binning_mode}
use Rattle.packets.specs.Length.{bin_length}
use Rattle.tile_memory.specs.Slots.{slot_fits}
use Rattle.bin_list.specs.declared.rule.BinRule.TheVariants.{UnknownOpcode, CutOff, FlushNotLast, SecondStart, StartWithoutConfig, IncrementNotLast, PrimitiveWithoutState, PrimitiveWithoutStart, NoIndexBuffer, IndexesOutside, IndexOverflow, UndeclaredState, StateBits, SecondConfig, NoTiles, ConfigFlags, TooManyTiles, NoStart, NoEnd}
use Rattle.bin_list.specs.{declared.fault.ListFault.ListFault, declared.rule.BinRule.BinRule, declared.seen.Seen.Seen, Faults.fault, Packets.opcode, Packets.packets_passed, Seen.place, Seen.seen_before}

-- What a list is checked against: its length, the number of shader states that its job declares, and the job's
-- buffers and handles.
pub record GivenModel : Type 0 where
  pub size : ℕ
  pub declared : ℕ
  pub table : TableModel
  pub handles : List ℕ

-- B1: no packet has this opcode
-- B2: the packet goes past the list's end
unfoldable pub cut_questions : List ℕ → List (Question BinRule)
cut_questions packet =
    Ask (bin_length (opcode packet) == 0) UnknownOpcode
    ∷ (Ask (nat_lt (length packet) (bin_length (opcode packet))) CutOff ∷ [])

-- B3: a flush isn't the list's last byte
unfoldable pub flush_questions : GivenModel → Seen → List (Question BinRule)
flush_questions given seen = Ask (not (seen.at + 1 == given.size)) FlushNotLast ∷ []

-- B4: a start follows a start
-- B5: it has no configuration before it
unfoldable pub start_questions : Seen → List (Question BinRule)
start_questions seen = Ask seen.started SecondStart ∷ (Ask (not seen.configured) StartWithoutConfig ∷ [])

-- B6: an increment of the semaphore isn't the list's last byte but one
unfoldable pub increment_questions : GivenModel → Seen → List (Question BinRule)
increment_questions given seen = Ask (not (seen.at + 2 == given.size)) IncrementNotLast ∷ []

-- B7: a primitive has no shader state before it
-- B8: it has no start before it
unfoldable pub primitive_questions : Seen → List (Question BinRule)
primitive_questions seen = Ask (seen.states == 0) PrimitiveWithoutState ∷ (Ask (not seen.started) PrimitiveWithoutStart ∷ [])

-- the buffer that the indexes come from
unfoldable pub index_buffer : GivenModel → Seen → Buffer
index_buffer given seen = buffer_at given.table.buffers (slice_index given.handles seen.index_handle)

-- one byte an index where the high four bits of the mode are zero, else two
unfoldable pub index_size : List ℕ → ℕ
index_size packet = if slice_index packet 1 / 16 == 0 then 1 else 2

-- where the indexes end in their buffer
unfoldable pub indexes_end : List ℕ → ℕ
indexes_end packet = u32_at packet 6 + u32_at packet 2 * index_size packet

-- B9: the index buffer's handle names no data buffer
-- B10: the indexes end past the buffer
unfoldable pub index_questions : GivenModel → Seen → List ℕ → List (Question BinRule)
index_questions given seen packet =
    Ask (not (is_some (data_of given.table given.handles seen.index_handle))) NoIndexBuffer
    ∷ (Ask (nat_lt (index_buffer given seen).size (indexes_end packet)) IndexesOutside ∷ [])

-- B11: the first index and the number of vertices add up to 2^32 or more
unfoldable pub array_questions : List ℕ → List (Question BinRule)
array_questions packet = Ask (nat_le (2 ^ 32) (u32_at packet 6 + u32_at packet 2)) IndexOverflow ∷ []

-- B12: there are more shader states than declared, this one counted
-- B13: the word has a bit above bit 3
unfoldable pub state_questions : GivenModel → Seen → List ℕ → List (Question BinRule)
state_questions given seen packet =
    Ask (nat_le given.declared seen.states) UndeclaredState ∷ (Ask (nat_le 16 (u32_at packet 1)) StateBits ∷ [])

-- B14: a configuration follows a configuration
-- B15: there are no tiles across or down
-- B16: bit 7 or bit 1 of the flags is set
-- B17: a tile slot has no room for so many tiles
unfoldable pub config_questions : Seen → List ℕ → List (Question BinRule)
config_questions seen packet =
    Ask seen.configured SecondConfig
    ∷ (Ask (slice_index packet 13 == 0 || slice_index packet 14 == 0) NoTiles
    ∷ (Ask (not (bit_and (slice_index packet 15) 130 == 0)) ConfigFlags
    ∷ (Ask (not (slot_fits (slice_index packet 13 * slice_index packet 14))) TooManyTiles ∷ [])))

-- the rules of a packet's kind
unfoldable pub kind_questions : GivenModel → Seen → List ℕ → List (Question BinRule)
kind_questions given seen packet =
    if opcode packet == flush then flush_questions given seen
    else (if opcode packet == start_tile_binning then start_questions seen
    else (if opcode packet == increment_semaphore then increment_questions given seen
    else (if opcode packet == indexed_primitive_list then primitive_questions seen ++ index_questions given seen packet
    else (if opcode packet == array_primitive_list then primitive_questions seen ++ array_questions packet
    else (if opcode packet == gl_shader_state then state_questions given seen packet
    else (if opcode packet == tile_binning_mode then config_questions seen packet
    else []))))))

unfoldable pub packet_questions : GivenModel → Seen → List ℕ → List (Question BinRule)
packet_questions given seen packet = cut_questions packet ++ kind_questions given seen packet

-- B18: the list has no start
-- B19: its last two bytes aren't an increment of the semaphore and a flush
unfoldable pub end_questions : Seen → List (Question BinRule)
end_questions seen =
    Ask (not seen.started) NoStart
    ∷ (Ask (not (seen.before_last == increment_semaphore && seen.last == flush)) NoEnd ∷ [])

-- the rules of each of these packets, which come the nearest first
abbrev pub questions_of_packets : GivenModel → List (List ℕ) → List (Question ListFault)
questions_of_packets given [] = []
questions_of_packets given (packet ∷ earlier) =
    questions_of_packets given earlier ++ with_answers (fault (place earlier)) (packet_questions given (seen_before earlier) packet)

-- all rules, and at the end those of the whole list
unfoldable pub questions_of : GivenModel → List (List ℕ) → List (Question ListFault)
questions_of given all = questions_of_packets given all ++ with_answers (fault given.size) (end_questions (seen_before all))

-- all rules of a list
abbrev pub given_of : List ℕ → ℕ → TableModel → List ℕ → GivenModel
given_of list declared table handles = record { size = length list; declared = declared; table = table; handles = handles }

abbrev pub bin_questions : List ℕ → ℕ → TableModel → List ℕ → List (Question ListFault)
bin_questions list declared table handles = questions_of (given_of list declared table handles) (packets_passed list)
