-- Which primitives an emitted list may draw.
use Rattle.std.specs.Prelude.{◌≡◌, ◌⊎◌, ◌≤◌, ◌<◌, ℕ, ◌+◌, ◌*◌, ◌%◌, ◌^◌, List, [], ◌∷◌, slice_index}
use Rattle.field_words.specs.Words.{u32_at}
use Rattle.buffer_table.specs.{Table.TableModel, Table.buffer_at, Handles.IsData}
use Rattle.relocation.specs.declared.layout.Layout.{Layout}
use Rattle.packets.specs.{Opcode.indexed_primitive_list, Opcode.array_primitive_list, StateWord.record_room}
use Rattle.bin_list.specs.{declared.state.State.State, Packets.opcode, Rules.index_size, States.draws_to}

-- the state whose record is emitted where a word points; records stand one after another, the first of these at an offset
-- from the records' place
abbrev pub IsStateAt : Layout → ℕ → List State → ℕ → State → Type 0
IsStateAt layout at [] word state = ⊥
IsStateAt layout at (first ∷ later) word state =
    ((word ≡ layout.place + layout.records + at + first.word % 16) × (state ≡ first)) ⊎ IsStateAt layout (at + record_room first.word) later word state

-- the indexes lie in a data buffer that a handle of the job names
pub record AreIndexesInside (table : TableModel) (handles : List ℕ) (packet : List ℕ) : Type 0 where
  pub handle : ℕ
  pub buffer : IsData table handles handle
  pub from : (buffer_at table.buffers (slice_index handles handle)).place ≤ u32_at packet 6
  pub upto : u32_at packet 6 + u32_at packet 2 * index_size packet ≤ (buffer_at table.buffers (slice_index handles handle)).place + (buffer_at table.buffers (slice_index handles handle)).size

-- A primitive under a state word: the word points to an emitted record, whose state's greatest index it keeps.
pub record IsDrawn (table : TableModel) (handles : List ℕ) (layout : Layout) (states : List State) (word : ℕ) (packet : List ℕ) : Type 0 where
  pub state : State
  pub is_state : IsStateAt layout 0 states word state
  pub most : draws_to packet ≤ state.max_index
  pub indexes : opcode packet ≡ indexed_primitive_list → AreIndexesInside table handles packet
  pub array : opcode packet ≡ array_primitive_list → u32_at packet 6 + u32_at packet 2 < 2 ^ 32
