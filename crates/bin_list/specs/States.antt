-- The shader states of a binner list, each with the greatest index that its primitives draw.
use Rattle.std.specs.Prelude.{ℕ, ◌+◌, ◌-◌, max, ◌==◌, List, [], ◌∷◌, if◌then◌else◌}
use Rattle.field_words.specs.Words.{u32_at}
use Rattle.packets.specs.Opcode.{indexed_primitive_list, array_primitive_list, gl_shader_state}
use Rattle.bin_list.specs.{declared.state.State.State, Packets.opcode}

-- the last of the indexes from the first on; 0 where there are none
abbrev pub last_index : (first count : ℕ) → ℕ
last_index first count = if count == 0 then 0 else first + count - 1

-- The greatest index that a packet draws: an indexed primitive's maximum index, also where its length is 0, and the last
-- index of an array primitive that has a length. All else draws nothing above 0.
unfoldable pub draws_to : List ℕ → ℕ
draws_to packet =
    if opcode packet == indexed_primitive_list then u32_at packet 10
    else (if opcode packet == array_primitive_list then last_index (u32_at packet 6) (u32_at packet 2)
    else 0)

-- the greatest index up to the next shader state, from 0
abbrev pub greatest : List (List ℕ) → ℕ
greatest [] = 0
greatest (packet ∷ later) = if opcode packet == gl_shader_state then 0 else max (draws_to packet) (greatest later)

abbrev pub state : ℕ → ℕ → State
state word most = record { word = word; max_index = most }

abbrev pub states_of : List (List ℕ) → List State
states_of [] = []
states_of (packet ∷ later) =
    if opcode packet == gl_shader_state then state (u32_at packet 1) (greatest later) ∷ states_of later else states_of later
