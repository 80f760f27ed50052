-- No rule is broken by the shader records of an example, nor by the uniforms of their shaders.
use Rattle.std.proofs.Common.{◌≡◌, ℕ, ◌+◌, ◌*◌, ◌-◌, false, [], ◌∷◌, Some, None, refl, ap, arith, ◌∙◌, zero, suc, ◌≤◌, ◌<◌, List, ◌++◌, length, drop, replicate, sym}
use Rattle.std.proofs.lemmas.{List.drop-drop, List.drop_at, Grind.common_steps, Bool.Decides.nat_tests}
use Rattle.std.specs.{Prelude.nat_lt, Prelude.nat_le, Prelude.slice_index_or}
use Rattle.field_words.specs.{Words.rounded_up, Words.u32_at, Pieces.joined_texts, Questions.first_of, Questions.each}
use Rattle.field_words.proofs.{Numbers.rounded, Questions.passes}
use Rattle.buffer_table.specs.{Table.buffer_at, Handles.data_of, Handles.code_of}
use Rattle.texture_layouts.specs.{Format.frame_tiling, Format.frame_pixel, Surface.microtile_width_of, Surface.microtile_height_of}
use Rattle.render_list.specs.Surfaces.{frame_questions, shape_questions, size_questions, surface_questions, whole_questions, surface_faults}
use Rattle.render_list.specs.Frame.{is_present, is_multisample, tile_side, is_full}
use Rattle.example_job.specs.{Example.frame_of, Lists.record_bytes, Lists.records_of}
use Rattle.example_law.specs.Laws.{IsInRange}
use Rattle.example_law.proofs.Numbers.{is_over, is_under, table_for, states_are, report}
use Rattle.emitted_facts.specs.Records.{attribute_size, attribute_stride, is_single}
use Rattle.packets.specs.StateWord.{attribute_count, is_extended, record_size}
use Rattle.bin_list.specs.States.{state}
use Rattle.shader_records.specs.Sources.{no_state, state_at, handles_size, source_size, record_source, code_number, attribute_number, shader_used, taken_before, uniform_source, record_word}
use Rattle.shader_records.specs.Rules.{cut_questions, code_questions, handle_questions, disagrees, fixed_questions, is_attribute_past, has_vertex_past, attribute_questions, names_questions, body_questions, record_questions, use_questions, shader_questions, state_questions, all_questions}
use Rattle.shader_records.specs.Inputs.{InputModel}
use Rattle.example_job.proofs.Formed.{records_length}
use Rattle.render_list.proofs.Opened.{tests}

-- No rule is broken by the frame and the surfaces of an example.

-- the tests of the rules on a frame of so many tiles
record IsFrame (across down : ℕ) : Type 0 where
  across_order : nat_lt (across - 1) 0 ≡ false
  down_order : nat_lt (down - 1) 0 ≡ false
  across_grid : nat_le across (across - 1) ≡ false
  down_grid : nat_le down (down - 1) ≡ false
  width : nat_le (64 * across) ((across - 1) * 64) ≡ false
  height : nat_le (64 * down) ((down - 1) * 64) ≡ false
  wide : nat_lt 4096 (64 * across) ≡ false
  high : nat_lt 4096 (64 * down) ≡ false
  room : nat_lt (16384 * (across * down)) (0 + rounded_up (64 * across) 32 * rounded_up (64 * down) 32 * 4) ≡ false

-- a whole number of tiles is a whole number of units of 32 pixels
whole_units : (n : ℕ) → rounded_up (64 * n) 32 ≡ 64 * n
whole_units n = grind (arith, common_steps, nat_tests, rounded)

bytes_are : (across down : ℕ) → 0 + 64 * across * (64 * down) * 4 ≡ 16384 * (across * down)
bytes_are across down = grind arith

frame_facts : (across down count : ℕ) → IsInRange across down count → IsFrame across down
frame_facts across down count range =
    let wide = range.wide in
    let high = range.high in
    record {
      across_order = is_under (across - 1) 0 (omega arith);
      down_order = is_under (down - 1) 0 (omega arith);
      across_grid = is_over across (across - 1) (omega arith);
      down_grid = is_over down (down - 1) (omega arith);
      width = is_over (64 * across) ((across - 1) * 64) (omega arith);
      height = is_over (64 * down) ((down - 1) * 64) (omega arith);
      wide = is_under 4096 (64 * across) (omega arith);
      high = is_under 4096 (64 * down) (omega arith);
      room = ap (λ w. nat_lt (16384 * (across * down)) (0 + w * rounded_up (64 * down) 32 * 4)) (whole_units across)
          ∙ ap (λ h. nat_lt (16384 * (across * down)) (0 + 64 * across * h * 4)) (whole_units down)
          ∙ ap (nat_lt (16384 * (across * down))) (bytes_are across down)
          ∙ is_under (16384 * (across * down)) (16384 * (across * down)) (omega arith);
    }

frame_none : (across down : ℕ) → IsFrame across down
    → first_of (surface_faults (frame_of across down) (Some (across, down)) (table_for (across * down)) (0 ∷ 1 ∷ 2 ∷ [])) ≡ None
unfolding each data_of buffer_at microtile_width_of microtile_height_of is_present is_multisample tile_side is_full frame_questions frame_tiling frame_pixel shape_questions size_questions surface_questions whole_questions surface_faults tests
frame_none across down f = rw (f.across_order, f.down_order, f.across_grid, f.down_grid, f.width, f.height, f.wide, f.high, f.room) refl

pub surfaces_no_fault : (across down count : ℕ) → IsInRange across down count
    → first_of (surface_faults (frame_of across down) (Some (across, down)) (table_for (across * down)) (0 ∷ 1 ∷ 2 ∷ [])) ≡ None
surfaces_no_fault across down count range = frame_none across down (frame_facts across down count range)

-- what the records of an example are checked with
abbrev pub input : ℕ → ℕ → InputModel
input tiles count = record {
  states = states_are 0 count;
  records = records_of count;
  uniforms = [];
  table = table_for tiles;
  handles = 0 ∷ 1 ∷ 2 ∷ [];
  shaders = Some report ∷ None ∷ None ∷ [];
}

-- from a place on the bytes begin with a text
pub record BeginsAt (bytes : List ℕ) (at : ℕ) (text : List ℕ) : Type 0 where
  pub rest : List ℕ
  pub same : drop at bytes ≡ text ++ rest

drop_on : (n : ℕ) (text bytes : List ℕ) → drop (length text + n) (text ++ bytes) ≡ drop n bytes
drop_on n text bytes = sym (drop-drop n (length text) (text ++ bytes)) ∙ ap (drop n) (drop_at text bytes (length text) refl)

begins : (i n : ℕ) → i < n → BeginsAt (joined_texts (replicate n record_bytes)) (60 * i) record_bytes
begins i zero inside = absurd (omega arith)
begins zero (suc n) inside = record { rest = joined_texts (replicate n record_bytes); same = refl }
begins (suc i) (suc n) inside =
    let later = begins i n (omega arith) in
    let further : 60 * suc i ≡ 60 + 60 * i = omega arith in
    record { rest = later.rest; same = ap (λ at. drop at (joined_texts (replicate (suc n) record_bytes))) further ∙ drop_on (60 * i) record_bytes (joined_texts (replicate n record_bytes)) ∙ later.same }

pub record_begins : (i count : ℕ) → i < count → BeginsAt (records_of count) (60 * i) record_bytes
unfolding records_of
record_begins i count inside = begins i count inside

-- a word of a record is that of its bytes
word_in : (bytes : List ℕ) (at p c : ℕ) → (b : BeginsAt bytes at record_bytes) → p ≡ at + c → u32_at bytes p ≡ u32_at (record_bytes ++ b.rest) c
unfolding u32_at
word_in bytes at p c b is = grind (arith, common_steps, nat_tests, drop-drop)

-- the words that rules ask of a record, each at its place
record Words (bytes : List ℕ) (at : ℕ) : Type 0 where
  fragment : u32_at bytes (at + 0) ≡ 0
  vertex : u32_at bytes (at + 4) ≡ 0
  coordinate : u32_at bytes (at + 8) ≡ 0
  attribute : u32_at bytes (at + 12) ≡ 1
  flags : u32_at bytes (at + 16 + 0) ≡ 1
  fragment_code : u32_at bytes (at + 16 + 4) ≡ 0
  vertex_code : u32_at bytes (at + 16 + 16) ≡ 0
  coordinate_code : u32_at bytes (at + 16 + 28) ≡ 0
  address : u32_at bytes (at + 16 + 36) ≡ 0
  shape : u32_at bytes (at + 16 + 40) ≡ 4111

words : (bytes : List ℕ) (at : ℕ) → BeginsAt bytes at record_bytes → Words bytes at
unfolding u32_at
words bytes at b = record {
  fragment = word_in bytes at (at + 0) 0 b (omega arith);
  vertex = word_in bytes at (at + 4) 4 b (omega arith);
  coordinate = word_in bytes at (at + 8) 8 b (omega arith);
  attribute = word_in bytes at (at + 12) 12 b (omega arith);
  flags = word_in bytes at (at + 16 + 0) 16 b (omega arith);
  fragment_code = word_in bytes at (at + 16 + 4) 20 b (omega arith);
  vertex_code = word_in bytes at (at + 16 + 16) 32 b (omega arith);
  coordinate_code = word_in bytes at (at + 16 + 28) 44 b (omega arith);
  address = word_in bytes at (at + 16 + 36) 52 b (omega arith);
  shape = word_in bytes at (at + 16 + 40) 56 b (omega arith);
}

-- the rules of a record whose words these are
record_none : (tiles count at most : ℕ) → Words (records_of count) at → nat_lt (length (records_of count)) (at + 16) ≡ false → nat_lt (length (records_of count)) (at + 60) ≡ false → nat_lt 65535 most ≡ false
    → first_of (record_questions (input tiles count) at 1 most) ≡ None
unfolding each attribute_count is_extended record_size attribute_size attribute_stride is_single handles_size source_size code_number attribute_number shader_used record_word cut_questions code_questions handle_questions disagrees fixed_questions is_attribute_past has_vertex_past attribute_questions names_questions body_questions record_questions data_of code_of buffer_at
record_none tiles count at most w handles whole vertices = grind (arith, common_steps, nat_tests)

-- its shaders take no uniforms, so no rule on uniforms is broken
uniforms_none : (tiles count at : ℕ) → Words (records_of count) at → first_of (each (shader_questions (input tiles count) at 0) 0 3) ≡ None
unfolding each code_number shader_used taken_before use_questions shader_questions code_of buffer_at
uniforms_none tiles count at w = rw (w.fragment, w.vertex, w.coordinate) refl

none_taken : (tiles count at : ℕ) → Words (records_of count) at → taken_before (input tiles count) at 3 ≡ 0
unfolding code_number shader_used taken_before code_of buffer_at
none_taken tiles count at w = rw (w.fragment, w.vertex, w.coordinate) refl

-- state number k, and where its record and its uniforms begin
state_is : (j n k : ℕ) → k < n → slice_index_or (states_are j n) k no_state ≡ state 1 (j + k + 2)
state_is j zero k inside = absurd (omega arith)
state_is j (suc n) zero inside = let same : j + 2 ≡ j + 0 + 2 = omega arith in ap (λ index. state 1 index) same
state_is j (suc n) (suc k) inside = state_is (j + 1) n k (omega arith) ∙ ap (λ index. state 1 index) (omega arith)

states_length : (j n : ℕ) → length (states_are j n) ≡ n
states_length j zero = refl
states_length j (suc n) = ap suc (states_length (j + 1) n)

source_is : (tiles count k : ℕ) → k ≤ count → record_source (input tiles count) k ≡ 60 * k
unfolding record_source source_size handles_size attribute_count record_size is_extended
source_is tiles count zero inside = refl
source_is tiles count (suc k) inside =
    let before = source_is tiles count k (omega arith) in
    ap (λ s. record_source (input tiles count) k + source_size s.word) (state_is 0 count k (omega arith))
    ∙ omega arith

uniforms_is : (tiles count k : ℕ) → k ≤ count → uniform_source (input tiles count) k ≡ 0
unfolding uniform_source
uniforms_is tiles count zero inside = refl
uniforms_is tiles count (suc k) inside =
    let before = uniforms_is tiles count k (omega arith) in
    let w = words (records_of count) (60 * k) (record_begins k count (omega arith)) in
    let taken = none_taken tiles count (60 * k) w in
    ap (λ at. uniform_source (input tiles count) k + taken_before (input tiles count) at 3) (source_is tiles count k (omega arith))
    ∙ omega arith

state_none : (tiles count k : ℕ) → count ≤ 17476 → k < count → first_of (state_questions (input tiles count) k) ≡ None
unfolding state_questions
state_none tiles count k few inside =
    let i = input tiles count in
    let w = words (records_of count) (60 * k) (record_begins k count inside) in
    let size = records_length count in
    let at_is = source_is tiles count k (omega arith) in
    passes (record_questions i (record_source i k) (state_at i k).word (state_at i k).max_index) (each (shader_questions i (record_source i k) (uniform_source i k)) 0 3)
    (ap (λ at. first_of (record_questions i at (state_at i k).word (state_at i k).max_index)) at_is
    ∙ ap (λ s. first_of (record_questions i (60 * k) s.word s.max_index)) (state_is 0 count k inside)
    ∙ record_none tiles count (60 * k) (0 + k + 2) w
    (is_under (length (records_of count)) (60 * k + 16) (omega arith))
    (is_under (length (records_of count)) (60 * k + 60) (omega arith))
    (is_under 65535 (0 + k + 2) (omega arith)))
    ∙ (ap (λ at. first_of (each (shader_questions i at (uniform_source i k)) 0 3)) at_is
    ∙ ap (λ from. first_of (each (shader_questions i (60 * k) from) 0 3)) (uniforms_is tiles count k (omega arith))
    ∙ uniforms_none tiles count (60 * k) w)

states_none : (tiles count k n : ℕ) → count ≤ 17476 → k + n ≤ count → first_of (each (state_questions (input tiles count)) k n) ≡ None
unfolding each
states_none tiles count k zero few inside = refl
states_none tiles count k (suc n) few inside =
    grind (arith, common_steps, nat_tests, passes, state_none, states_none tiles count (k + 1) n few (omega arith))

pub records_no_fault : (tiles count : ℕ) → count ≤ 17476 → first_of (all_questions (input tiles count)) ≡ None
unfolding all_questions
records_no_fault tiles count few = grind (arith, common_steps, nat_tests, states_length, states_none)
