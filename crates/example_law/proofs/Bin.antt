-- No rule is broken by the binner list of an example, and what it tells.
use Rattle.std.proofs.Common.{◌≡◌, ℕ, zero, suc, ◌+◌, ◌*◌, ◌^◌, ◌≤◌, ◌<◌, true, false, List, [], ◌∷◌, None, length, refl, sym, ap, subst, arith, ◌∙◌}
use Rattle.std.proofs.lemmas.{Nat.from_le_bytes-to_le_bytes_4, Grind.common_steps, Bool.Decides.nat_tests}
use Rattle.field_words.specs.{Questions.first_of, Words.u32_at, Words.rounded_up}
use Rattle.std.specs.Prelude.{◌==◌, nat_le}
use Rattle.field_words.proofs.Numbers.{rounded}
use Rattle.buffer_table.specs.Table.{TableModel}
use Rattle.packets.specs.Length.{bin_length, bin_taken}
use Rattle.packets.specs.StateWord.{attribute_count, is_extended, record_size, record_room}
use Rattle.tile_memory.specs.Slots.{alloc_offset, slot_fits}
use Rattle.bin_list.specs.Rules.{GivenModel, cut_questions, flush_questions, start_questions, increment_questions, primitive_questions, array_questions, state_questions, config_questions, kind_questions, packet_questions, end_questions, bin_questions}
use Rattle.bin_list.specs.{declared.seen.Seen.Seen, Packets.packets, Packets.packets_passed}
use Rattle.bin_list.specs.{Seen.seen_before, Seen.seen_after, States.draws_to, States.greatest, States.states_of}
use Rattle.job_check.specs.Jobs.{grid_from}
use Rattle.example_job.specs.Lists.{config, start, state, triangle, states_from, packets_of, bin_of}
use Rattle.example_job.proofs.Formed.{bin_length as bytes_of_bin}
use Rattle.bin_list.proofs.Packets.{AreWhole, packets_joined}
use Rattle.example_law.proofs.Numbers.{states_are, IsTiles, is_over, is_some, is_same, is_within, seen_after_all, Pass, no_fault, seen_joined}

-- each packet is whole
states_whole : (j n : ℕ) → AreWhole (states_from j n)
unfolding bin_length bin_taken
states_whole j zero = (record { taken = refl; goes_on = refl }, (record { taken = refl; goes_on = refl }, tt))
states_whole j (suc n) = (record { taken = refl; goes_on = refl }, (record { taken = refl; goes_on = refl }, states_whole (j + 1) n))

all_whole : (across down count : ℕ) → AreWhole (packets_of across down count)
unfolding bin_length bin_taken
all_whole across down count = (record { taken = refl; goes_on = refl }, (record { taken = refl; goes_on = refl }, states_whole 0 count))

-- a triangle's first index, and how many it draws
first_index : (j : ℕ) → j < 2 ^ 32 → u32_at (triangle j) 6 ≡ j
unfolding u32_at
first_index j fits = from_le_bytes-to_le_bytes_4 j fits

three : (j : ℕ) → u32_at (triangle j) 2 ≡ 3
unfolding u32_at
three j = refl

-- a tile slot has room for so many tiles
has_room : (tiles : ℕ) → IsTiles tiles → slot_fits tiles ≡ true
unfolding slot_fits alloc_offset
has_room tiles range = grind (arith, common_steps, nat_tests, rounded, is_within)

-- what is seen after the start: the grid, and so many bytes, states and bytes of records
abbrev seen_in : (across down at last before_last states records : ℕ) → Seen
seen_in across down at last before_last states records = record {
  at = at;
  last = last;
  before_last = before_last;
  configured = true;
  started = true;
  states = states;
  records = records;
  index_handle = 0;
  tiles_x = across;
  tiles_y = down;
}

config_none : (given : GivenModel) (across down : ℕ) → (across == 0) ≡ false → (down == 0) ≡ false → slot_fits (across * down) ≡ true
    → first_of (packet_questions given (seen_before []) (config across down)) ≡ None
unfolding packet_questions cut_questions kind_questions config_questions bin_length seen_before
config_none given across down some_across some_down room = rw (some_across, some_down, room) refl

start_none : (given : GivenModel) (across down : ℕ) → first_of (packet_questions given (seen_after (seen_before []) (config across down)) start) ≡ None
unfolding packet_questions cut_questions kind_questions start_questions bin_length seen_before seen_after
start_none given across down = refl

state_none : (given : GivenModel) (across down at last before_last states records : ℕ) → nat_le given.declared states ≡ false
    → first_of (packet_questions given (seen_in across down at last before_last states records) state) ≡ None
unfolding packet_questions cut_questions kind_questions state_questions bin_length u32_at
state_none given across down at last before_last states records declared = rw declared refl

triangle_none : (given : GivenModel) (across down at last before_last states records j : ℕ) → (states == 0) ≡ false → nat_le (2 ^ 32) (u32_at (triangle j) 6 + u32_at (triangle j) 2) ≡ false
    → first_of (packet_questions given (seen_in across down at last before_last states records) (triangle j)) ≡ None
unfolding packet_questions cut_questions kind_questions primitive_questions array_questions bin_length
triangle_none given across down at last before_last states records j some fits = rw (some, fits) refl

increment_none : (given : GivenModel) (across down at last before_last states records : ℕ) → (at + 2 == given.size) ≡ true
    → first_of (packet_questions given (seen_in across down at last before_last states records) (7 ∷ [])) ≡ None
unfolding packet_questions cut_questions kind_questions increment_questions bin_length
increment_none given across down at last before_last states records end = rw end refl

flush_none : (given : GivenModel) (across down at last before_last states records : ℕ) → (at + 1 == given.size) ≡ true
    → first_of (packet_questions given (seen_in across down at last before_last states records) (4 ∷ [])) ≡ None
unfolding packet_questions cut_questions kind_questions flush_questions bin_length
flush_none given across down at last before_last states records end = rw end refl

end_none : (across down at states records : ℕ) → first_of (end_questions (seen_in across down at 4 7 states records)) ≡ None
unfolding end_questions
end_none across down at states records = refl

-- n states from number j on pass, and then the end does
states_pass : (given : GivenModel) (across down at last before_last j records n : ℕ) → j + n ≤ given.declared → given.declared ≤ 17476 → at + 15 * n + 2 ≡ given.size
    → Pass given (seen_in across down at last before_last j records) (states_from j n)
unfolding seen_after u32_at attribute_count is_extended record_size record_room rounded_up
states_pass given across down at last before_last j records zero inside few size = (
  increment_none given across down at last before_last j records (is_same (at + 2) given.size (omega arith)),
  (
    flush_none given across down (at + 1) 7 last j records (is_same (at + 1 + 1) given.size (omega arith)),
    end_none across down (at + 1 + 1) j records,
  ),
)
states_pass given across down at last before_last j records (suc n) inside few size = (
  state_none given across down at last before_last j records (is_over given.declared j (omega arith)),
  (
    triangle_none given across down (at + 5) 64 last (j + 1) (records + 48) j (is_some (j + 1) (omega arith))
        (is_over (2 ^ 32) (u32_at (triangle j) 6 + u32_at (triangle j) 2) (let one = first_index j (omega arith) in let two = three j in omega arith)),
    states_pass given across down (at + 5 + 10) 33 64 (j + 1) (records + 48) n (omega arith) few (omega arith),
  ),
)

start_seen : (across down : ℕ) → seen_after (seen_after (seen_before []) (config across down)) start ≡ seen_in across down 17 6 112 0 0
unfolding seen_before seen_after
start_seen across down = refl

bin_none : (given : GivenModel) (across down : ℕ) → IsTiles (across * down) → 1 ≤ across → 1 ≤ down → given.declared ≤ 17476 → given.size ≡ 15 * given.declared + 19
    → Pass given (seen_before []) (packets_of across down given.declared)
bin_none given across down tiles some_across some_down few size = (
  config_none given across down (is_some across some_across) (is_some down some_down) (has_room (across * down) tiles),
  (
    start_none given across down,
    subst (λ seen. Pass given seen (states_from 0 given.declared)) (sym (start_seen across down))
        (states_pass given across down 17 6 112 0 0 given.declared (omega arith) few (omega arith)),
  ),
)

-- No rule is broken by the list.
pub bin_no_fault : (across down count : ℕ) (table : TableModel) (handles : List ℕ) → IsTiles (across * down) → 1 ≤ across → 1 ≤ down → count ≤ 17476
    → first_of (bin_questions (bin_of across down count) count table handles) ≡ None
unfolding bin_of
bin_no_fault across down count table handles tiles some_across some_down few =
    let size = bytes_of_bin across down count in
    let given : GivenModel = record { size = length (bin_of across down count); declared = count; table = table; handles = handles } in
    no_fault given (packets_of across down count) (all_whole across down count)
    (bin_none given across down tiles some_across some_down few size)

-- The grid is that of the configuration, which no later packet changes.
grid_stays : (seen : Seen) (j n : ℕ) → grid_from (seen_after_all seen (states_from j n)) ≡ grid_from seen
unfolding seen_after
grid_stays seen j zero = refl
grid_stays seen j (suc n) = grid_stays (seen_after (seen_after seen state) (triangle j)) (j + 1) n

pub grid_is : (across down count : ℕ) → grid_from (seen_before (packets_passed (bin_of across down count))) ≡ (across, down)
unfolding bin_of
grid_is across down count =
    ap grid_from (seen_joined (packets_of across down count) (all_whole across down count))
    ∙ grid_stays (seen_after (seen_after (seen_before []) (config across down)) start) 0 count
    ∙ ap grid_from (start_seen across down)

-- The states, each with its triangle's last vertex.
nothing_drawn : (j n : ℕ) → greatest (states_from j n) ≡ 0
unfolding draws_to
nothing_drawn j zero = refl
nothing_drawn j (suc n) = refl

drawn : (j n : ℕ) → j < 17476 → greatest (triangle j ∷ states_from (j + 1) n) ≡ j + 2
unfolding draws_to
drawn j n few = rw (first_index j (omega arith), three j, nothing_drawn (j + 1) n) (omega arith)

report : (j n : ℕ) → j + n ≤ 17476 → states_of (states_from j n) ≡ states_are j n
unfolding u32_at
report j zero few = refl
report j (suc n) few =
    ap (λ index. record { word = 1; max_index = index } ∷ states_of (states_from (j + 1) n)) (drawn j n (omega arith))
    ∙ ap (λ states. record { word = 1; max_index = j + 2 } ∷ states) (report (j + 1) n (omega arith))

pub states_reported : (across down count : ℕ) → count ≤ 17476 → states_of (packets (bin_of across down count)) ≡ states_are 0 count
unfolding bin_of
states_reported across down count few =
    ap states_of (packets_joined (packets_of across down count) (all_whole across down count)) ∙ report 0 count (omega arith)
