-- The numbers of an example are in their ranges.
use Rattle.std.specs.Prelude.{zero, suc, ◌==◌, nat_le, nat_lt, min, if◌then◌else◌}
use Rattle.bin_list.specs.{declared.state.State.State, declared.seen.Seen.Seen, States.state, Seen.seen_before, Seen.seen_after}
use Rattle.bin_list.specs.Packets.{onto, packets_passed}
use Rattle.bin_list.specs.Rules.{GivenModel, packet_questions, end_questions, questions_of_packets, questions_of}
use Rattle.qpu_isa.specs.Shader.{ShaderModel}
use Rattle.std.proofs.Common.{◌≡◌, ◌<◌, ◌≤◌, ℕ, ◌+◌, ◌*◌, ◌/◌, ◌%◌, true, false, arith, [], ◌∷◌, None, refl, Bool, ap, ◌∙◌, List}
use Rattle.std.proofs.lemmas.{Bool.Decides.nat_tests, Grind.common_steps}
use Rattle.example_law.specs.Laws.{IsInRange}
use Rattle.example_job.specs.Example.{across_of, down_of, count_of, regions, code_buffer, vertex_buffer, frame_buffer, frame_of}
use Rattle.field_words.specs.{Sizes.most_memory, Sizes.most_list, Pieces.joined_texts, Questions.first_of, Questions.each}
use Rattle.buffer_table.specs.Table.{TableModel, shares, is_off_page, memory_within, item_questions, all_within, table_questions, buffer_at}
use Rattle.buffer_table.specs.{declared.buffer.Kind.TheVariants.Plain, Handles.handle_questions, Handles.handles_questions}
use Rattle.field_words.proofs.{Numbers.rounded, Questions.passes, Questions.answered_none}
use Rattle.relocation.specs.Layout.{records_start, uniforms_start, render_start, region_end}
use Rattle.render_list.specs.Frame.{is_present, is_full}
use Rattle.render_list.specs.Length.{load_size, loads_size, writes_size, tile_size, render_length}
use Rattle.job_check.specs.Jobs.{render_room}
use Rattle.bin_list.proofs.{Packets.AreWhole, Packets.packets_joined, Walk.seen_step}

-- What the binner list of an example tells, and its shader.

-- n states from number j on: each has one attribute, and its triangle's last vertex is j + 2
abbrev pub states_are : ℕ → ℕ → List State
states_are j zero = []
states_are j (suc n) = state 1 (j + 2) ∷ states_are (j + 1) n

-- the shader takes no uniforms, asks for no samples and switches no threads
abbrev pub report : ShaderModel
report = record { uniforms = 0; samples = []; address_words = []; threaded = false }

most_tiles : (across down : ℕ) → across ≤ 30 → down ≤ 17 → across * down ≤ 510
most_tiles across down few_across few_down = grind arith

some_tiles : (across down : ℕ) → 1 ≤ across → 1 ≤ down → 1 ≤ across * down
some_tiles across down some_across some_down = grind arith

-- those that a number stands for
pub in_range : (number : ℕ) → IsInRange (across_of number) (down_of number) (count_of number)
unfolding across_of down_of count_of
in_range number =
    let across : number % 30 + 1 ≤ 30 = omega arith in
    let down : number / 30 % 17 + 1 ≤ 17 = omega arith in
    let tiles : (number % 30 + 1) * (number / 30 % 17 + 1) ≤ 510 = most_tiles (number % 30 + 1) (number / 30 % 17 + 1) across down in
    record { some_across = omega arith; wide = omega arith; some_down = omega arith; high = omega arith; memory = omega arith; records = omega arith }

-- how many tiles there are
pub record IsTiles (tiles : ℕ) : Type 0 where
  pub some : 1 ≤ tiles
  pub few : tiles ≤ 3743

pub tiles_in : (across down count : ℕ) → IsInRange across down count → IsTiles (across * down)
tiles_in across down count range = record { some = some_tiles across down range.some_across range.some_down; few = omega arith }

-- tests of numbers
pub is_over : (n m : ℕ) → m < n → nat_le n m ≡ false
is_over n m over = grind (arith, nat_tests)

pub is_under : (n m : ℕ) → m ≤ n → nat_lt n m ≡ false
is_under n m under = grind (arith, nat_tests)

pub is_some : (n : ℕ) → 1 ≤ n → (n == 0) ≡ false
is_some n some = grind (arith, nat_tests)

pub is_same : (n m : ℕ) → n ≡ m → (n == m) ≡ true
is_same n m same = grind (arith, nat_tests)

pub is_within : (n m : ℕ) → n ≤ m → nat_le n m ≡ true
is_within n m within = grind (arith, nat_tests)

-- No rule is broken by the memory of an example, nor by its handles.

-- the memory table of a frame of so many tiles
abbrev pub memory_bytes : ℕ → ℕ
memory_bytes tiles = 0x581000 + 16384 * tiles

abbrev pub table_for : ℕ → TableModel
table_for tiles = record { memory = memory_bytes tiles; regions = regions; buffers = code_buffer ∷ vertex_buffer ∷ frame_buffer tiles ∷ [] }

-- the tests of the table's rules on the memory's size and on the frame's buffer
record IsRoom (memory size : ℕ) : Type 0 where
  some : (memory == 0) ≡ false
  pages : (memory % 4096 == 0) ≡ true
  most : nat_lt most_memory memory ≡ false
  lists : nat_lt memory 0x400000 ≡ false
  tile : nat_lt memory 0x480000 ≡ false
  code : nat_lt memory 0x481000 ≡ false
  vertices : nat_lt memory 0x581000 ≡ false
  frame : nat_lt memory (0x581000 + size) ≡ false
  frame_pages : (size % 4096 == 0) ≡ true
  frame_some : (size == 0) ≡ false
  after_lists : nat_lt 0x581000 (min (0x581000 + size) 0x400000) ≡ false
  after_tile : nat_lt 0x581000 (min (0x581000 + size) 0x480000) ≡ false
  after_code : nat_lt 0x581000 (min (0x581000 + size) 0x481000) ≡ false
  after_vertices : nat_lt 0x581000 (min (0x581000 + size) 0x581000) ≡ false
  no_content : nat_lt size 0 ≡ false

is_before : (frame end other : ℕ) → other ≤ frame → nat_lt frame (min end other) ≡ false
is_before frame end other before = grind (arith, nat_tests)

room : (tiles : ℕ) → IsTiles tiles → IsRoom (memory_bytes tiles) (16384 * tiles)
room tiles range =
    let some = range.some in
    record {
      some = is_some (memory_bytes tiles) (omega arith);
      pages = is_same (memory_bytes tiles % 4096) 0 (omega arith);
      most = is_under most_memory (memory_bytes tiles) (omega arith);
      lists = is_under (memory_bytes tiles) 0x400000 (omega arith);
      tile = is_under (memory_bytes tiles) 0x480000 (omega arith);
      code = is_under (memory_bytes tiles) 0x481000 (omega arith);
      vertices = is_under (memory_bytes tiles) 0x581000 (omega arith);
      frame = is_under (memory_bytes tiles) (0x581000 + 16384 * tiles) (omega arith);
      frame_pages = is_same (16384 * tiles % 4096) 0 (omega arith);
      frame_some = is_some (16384 * tiles) (omega arith);
      after_lists = is_before 0x581000 (0x581000 + 16384 * tiles) 0x400000 (omega arith);
      after_tile = is_before 0x581000 (0x581000 + 16384 * tiles) 0x480000 (omega arith);
      after_code = is_before 0x581000 (0x581000 + 16384 * tiles) 0x481000 (omega arith);
      after_vertices = is_before 0x581000 (0x581000 + 16384 * tiles) 0x581000 (omega arith);
      no_content = is_under (16384 * tiles) 0 (omega arith);
    }

table_none : (memory size : ℕ) → IsRoom memory size
    → first_of (table_questions memory regions (code_buffer ∷ vertex_buffer ∷ record { place = 0x581000; size = size; client = 1; kind = Plain; content = 0 } ∷ [])) ≡ None
unfolding each shares is_off_page memory_within item_questions all_within
table_none memory size room = grind (arith, common_steps, nat_tests, room)

pub table_no_fault : (tiles : ℕ) → IsTiles tiles → first_of (table_questions (memory_bytes tiles) regions (table_for tiles).buffers) ≡ None
table_no_fault tiles range = table_none (memory_bytes tiles) (16384 * tiles) (room tiles range)

pub handles_no_fault : (tiles : ℕ) → first_of (handles_questions (table_for tiles) 1 (0 ∷ 1 ∷ 2 ∷ [])) ≡ None
unfolding each handle_questions handles_questions buffer_at
handles_no_fault tiles = refl

-- The lists of an example fit their region.

-- 12 bytes, and 9 for each tile
render_is : (across down : ℕ) → 1 ≤ across → 1 ≤ down → render_length (frame_of across down) true ≡ 12 + 9 * (across * down)
unfolding is_present is_full load_size loads_size writes_size tile_size render_length
render_is across down some_across some_down = grind (arith, common_steps, nat_tests)

most_if : (b : Bool) (n most : ℕ) → n ≤ most → (if b then n else 0) ≤ most
most_if true n most under = under
most_if false n most under = omega arith

pub render_most : (across down : ℕ) → 1 ≤ across → 1 ≤ down → IsTiles (across * down) → render_room (frame_of across down) true ≤ 33699
unfolding render_room
render_most across down some_across some_down tiles = grind (arith, common_steps, nat_tests, render_is, most_if)

pub lists_fit : (bin records render : ℕ) → bin ≤ 262159 → records ≤ most_list → render ≤ 33699 → nat_lt (region_end regions) (regions.lists_place + (render_start bin records 0 + render)) ≡ false
unfolding records_start uniforms_start render_start
lists_fit bin records render bin_most records_most render_most = grind (arith, common_steps, nat_tests, rounded, is_under)

-- A binner list that is made of whole packets: what it is cut into, what is seen of it, and that no rule is broken by it where none
-- is broken for a packet after what is seen before it.

pub passed_joined : (all : List (List ℕ)) → AreWhole all → packets_passed (joined_texts all) ≡ onto [] all
unfolding packets_passed
passed_joined all whole = ap (onto []) (packets_joined all whole)

-- what is seen after these packets
abbrev pub seen_after_all : Seen → List (List ℕ) → Seen
seen_after_all seen [] = seen
seen_after_all seen (packet ∷ later) = seen_after_all (seen_after seen packet) later

pub seen_onto : (earlier later : List (List ℕ)) → seen_before (onto earlier later) ≡ seen_after_all (seen_before earlier) later
seen_onto earlier [] = refl
seen_onto earlier (packet ∷ later) = seen_onto (packet ∷ earlier) later ∙ ap (λ seen. seen_after_all seen later) (seen_step packet earlier)

-- no rule is broken by these packets, each after what is seen before it, nor at the list's end
abbrev pub Pass : GivenModel → Seen → List (List ℕ) → Type 0
Pass given seen [] = first_of (end_questions seen) ≡ None
Pass given seen (packet ∷ later) = (first_of (packet_questions given seen packet) ≡ None) × Pass given (seen_after seen packet) later

asked_none : (given : GivenModel) (earlier later : List (List ℕ)) → first_of (questions_of_packets given earlier) ≡ None → Pass given (seen_before earlier) later
    → first_of (questions_of given (onto earlier later)) ≡ None
unfolding questions_of
asked_none given earlier [] before pass = grind (arith, common_steps, nat_tests, passes, answered_none)
asked_none given earlier (packet ∷ later) before pass =
    grind (arith, common_steps, nat_tests, asked_none given (packet ∷ earlier) later, passes, answered_none, seen_step)

pub no_fault : (given : GivenModel) (all : List (List ℕ)) → AreWhole all → Pass given (seen_before []) all → first_of (questions_of given (packets_passed (joined_texts all))) ≡ None
no_fault given all whole pass = grind (arith, common_steps, nat_tests, passed_joined, asked_none)

pub seen_joined : (all : List (List ℕ)) → AreWhole all → seen_before (packets_passed (joined_texts all)) ≡ seen_after_all (seen_before []) all
seen_joined all whole = ap seen_before (passed_joined all whole) ∙ seen_onto [] all
