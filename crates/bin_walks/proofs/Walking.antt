-- The walk over the emitted list.
use Rattle.std.proofs.Common.{◌≡◌, ◌≢◌, inl, inr, ℕ, zero, suc, ◌+◌, ◌*◌, ◌%◌, ◌<◌, ◌≤◌, ◌^◌, max, Bool, true, false, List, [], ◌∷◌, ◌++◌, Option, Some, None, length, refl, sym, ap, subst, arith, ◌∙◌, append_assoc, append-nil, take, drop, get_or, eq-eqb}
use Rattle.std.proofs.{lemmas.Bool.eqb-true, lemmas.Bool.false≢true, lemmas.List.places}
use Rattle.field_words.specs.{Sizes.most_list, Sizes.slot_size, Words.u32_at, Questions.first_of, Pieces.joined_texts, Writes.with_bytes}
use Rattle.std.specs.{Prelude.if◌then◌else◌, Prelude.◌==◌, Prelude.slice_index, Int.to_le_bytes, Int.w32}
use Rattle.field_words.proofs.Numbers.{rounded}
use Rattle.buffer_table.specs.Table.{buffer_at, most_place}
use Rattle.relocation.specs.declared.layout.Layout.{Layout}
use Rattle.packets.specs.Opcode.{halt, flush, start_tile_binning, indexed_primitive_list, array_primitive_list, gl_shader_state, tile_binning_mode, buffer_handles}
use Rattle.packets.specs.{Length.bin_length, Length.bin_taken, declared.config.Config.Config, Config.config_in}
use Rattle.packets.specs.StateWord.{attribute_count, is_extended, record_size, record_room}
use Rattle.tile_memory.specs.Slots.{alloc_offset, slot_fits}
use Rattle.bin_list.specs.Seen.{latest, is_there, byte_of, last_opcode, place, states_in, records_in, seen_before}
use Rattle.bin_list.specs.{declared.seen.Seen.Seen, declared.state.State.State, Fine.IsLow}
use Rattle.bin_list.specs.Packets.{opcode, front_packet, behind, front_packets, onto}
use Rattle.bin_list.specs.Rules.{GivenModel, index_buffer, index_size, packet_questions, questions_of_packets}
use Rattle.bin_list.specs.States.{draws_to, greatest, state, states_of}
use Rattle.bin_list.specs.Emitted.{index_text, state_text, config_text, packet_text, texts}
use Rattle.bin_list.proofs.Facts.{onto_none, packet_none, start_fine, config_fine, state_fine}
use Rattle.bin_list.proofs.Packets.{front_some, taken_some}
use Rattle.bin_walks.specs.{Walks.Kept, Walks.kept_after, Walks.Drawing, Walks.Tame, Walks.Walks, Emission.emission, Emission.config_of}
use Rattle.bin_walks.specs.Draws.{IsStateAt, IsDrawn}
use Rattle.bin_walks.proofs.Texts.{addressed, state_opcode, state_long, state_word, config_opcode, config_long, config_read}
use Rattle.bin_walks.proofs.Fine.{cut_fine, taken_is, flush_fine, indexed_fine, array_fine, config_first}

-- The emitted list is its packets joined.
joined_if : (b : Bool) (x : List ℕ) (xs : List (List ℕ)) → joined_texts (if b then xs else x ∷ xs) ≡ (if b then [] else x) ++ joined_texts xs
joined_if true x xs = refl
joined_if false x xs = refl

text_if : (b : Bool) (x : List ℕ) → (if b then [] else (if b then [] else x)) ≡ (if b then [] else x)
text_if true x = refl
text_if false x = refl

dropped : (given : GivenModel) (layout : Layout) (seen : Seen) (p : List ℕ) → (if opcode p == buffer_handles then [] else packet_text given layout seen p) ≡ packet_text given layout seen p
unfolding packet_text
dropped given layout seen p = text_if (opcode p == buffer_handles) _

pub texts_joined : (given : GivenModel) (layout : Layout) (earlier later : List (List ℕ))
    → texts given layout (onto earlier later) ≡ texts given layout earlier ++ joined_texts (emission given layout earlier later)
texts_joined given layout earlier [] = sym (append-nil (texts given layout earlier))
texts_joined given layout earlier (p ∷ later) =
    let text = packet_text given layout (seen_before earlier) p in
    let rest = emission given layout (p ∷ earlier) later in
    texts_joined given layout (p ∷ earlier) later
    ∙ append_assoc (texts given layout earlier) text (joined_texts rest)
    ∙ ap (λ t. texts given layout earlier ++ (t ++ joined_texts rest)) (sym (dropped given layout (seen_before earlier) p))
    ∙ ap (λ t. texts given layout earlier ++ t) (sym (joined_if (opcode p == buffer_handles) text rest))

-- How the packets of a list are cut: each has a byte, no more than its opcode says, and nothing is read behind a halt.
abbrev pub AreCut : List (List ℕ) → Type 0
AreCut [] = Unit {0}
AreCut (p ∷ later) = (1 ≤ length p) × (length p ≤ bin_taken (opcode p)) × (opcode p ≡ halt → later ≡ []) × AreCut later

-- a fine packet is as long as its opcode says
whole_packet : (given : GivenModel) (seen : Seen) (p : List ℕ) → length p ≤ bin_taken (opcode p) → first_of (packet_questions given seen p) ≡ None → length p ≡ bin_length (opcode p)
whole_packet given seen p short none =
    let fine = cut_fine given seen p none in
    let taken = taken_is (opcode p) fine.0 in
    omega (arith, fine.1, taken, short)

-- The records of states take 147 bytes at most.
attributes_most : (b : Bool) (n : ℕ) → (if b then 8 else n % 8) ≤ 8
attributes_most true n = omega arith
attributes_most false n = omega arith

size_most : (b : Bool) (a : ℕ) → a ≤ 8 → (if b then 100 + 4 * a else 36 + 8 * a) ≤ 132
size_most true a most = omega arith
size_most false a most = omega arith

room_most : (word : ℕ) → record_room word ≤ 147
unfolding record_room record_size attribute_count
room_most word =
    let a : attribute_count word ≤ 8 = attributes_most (word % 8 == 0) word in
    let s : record_size word ≤ 132 = size_most (is_extended word) (attribute_count word) a in
    let r = rounded (record_size word) 16 (omega arith) in
    let near = r.near in
    omega arith

records_if : (b : Bool) (records room n : ℕ) → records ≤ 147 * n → room ≤ 147 → (if b then records + room else records) ≤ 147 * (if b then n + 1 else n)
records_if true records room n before most = omega (arith, before, most)
records_if false records room n before most = before

abbrev pub AreSome : List (List ℕ) → Type 0
AreSome [] = Unit {0}
AreSome (p ∷ earlier) = (1 ≤ length p) × AreSome earlier

-- the records of the states before, of which there are fewer than are declared
records_bounded : (earlier : List (List ℕ)) → records_in earlier ≤ 147 * states_in earlier
records_bounded [] = omega arith
records_bounded (p ∷ earlier) =
    records_if (opcode p == gl_shader_state) (records_in earlier) (record_room (u32_at p 1)) (states_in earlier) (records_bounded earlier) (room_most (u32_at p 1))

-- What was read takes no more than the whole, and less where something is left.
place_grows : (earlier later : List (List ℕ)) → AreCut later → place earlier ≤ place (onto earlier later)
place_grows earlier [] cuts = omega arith
place_grows earlier (p ∷ later) cuts = let rest = place_grows (p ∷ earlier) later cuts.3 in omega arith

nothing_left : (earlier later : List (List ℕ)) → AreCut later → place (onto earlier later) ≤ place earlier → later ≡ []
nothing_left earlier [] cuts full = refl
nothing_left earlier (p ∷ later) cuts full =
    let rest = place_grows (p ∷ earlier) later cuts.3 in
    let one = cuts.0 in
    absurd (omega arith)

no_second : (b there : Bool) → there ≡ true → (b ≡ true → there ≡ false) → b ≡ false
no_second true there is none = let no = none refl in absurd (false≢true (sym no ∙ is))
no_second false there is none = refl

-- The one configuration: none comes behind it.
kept_config : (given : GivenModel) (earlier later : List (List ℕ)) → first_of (questions_of_packets given (onto earlier later)) ≡ None → is_there (latest tile_binning_mode earlier) ≡ true
    → latest tile_binning_mode (onto earlier later) ≡ latest tile_binning_mode earlier
unfolding seen_before
kept_config given earlier [] none there = refl
kept_config given earlier (p ∷ later) none there =
    let fine = packet_none given earlier p (onto_none given (p ∷ earlier) later none) in
    let other : (opcode p == tile_binning_mode) ≡ false =
    no_second (opcode p == tile_binning_mode) (is_there (latest tile_binning_mode earlier)) there
    (λ is. config_first given (seen_before earlier) p fine (eqb-true (opcode p) tile_binning_mode is)) in
    let same : latest tile_binning_mode (p ∷ earlier) ≡ latest tile_binning_mode earlier = ap (λ b. if b then Some p else latest tile_binning_mode earlier) other in
    kept_config given (p ∷ earlier) later none (ap is_there same ∙ there) ∙ same

-- The state in view: its word is kept, its record stands there, and what comes up to the next state draws no further.
pub record InView (layout : Layout) (all : List State) (later : List (List ℕ)) (kept : Kept) : Type 0 where
  pub word : ℕ
  pub most : State
  pub kept_word : kept.word ≡ Some word
  pub is_state : IsStateAt layout 0 all word most
  pub upto : greatest later ≤ most.max_index

-- What the binner has kept of the packets before these.
pub record Goes (layout : Layout) (config : Config) (all : List State) (earlier later : List (List ℕ)) (kept : Kept) : Type 0 where
  pub view : 1 ≤ states_in earlier → InView layout all later kept
  pub config_is : is_there (latest tile_binning_mode earlier) ≡ true → kept.config ≡ Some config
  pub started_is : is_there (latest start_tile_binning earlier) ≡ true → kept.started ≡ true
  pub states : (word : ℕ) (s : State) → IsStateAt layout (records_in earlier) (states_of later) word s → IsStateAt layout 0 all word s

-- one packet on, by what its opcode is
config_if : (b : Bool) (p : List ℕ) (o : Option (List ℕ)) (report config : Config) (before : Option Config)
    → (b ≡ true → report ≡ config) → (is_there o ≡ true → before ≡ Some config) → is_there (if b then Some p else o) ≡ true → (if b then Some report else before) ≡ Some config
config_if true p o report config before here there is = ap Some (here refl)
config_if false p o report config before here there is = there is

started_if : (b : Bool) (p : List ℕ) (o : Option (List ℕ)) (before : Bool) → (is_there o ≡ true → before ≡ true) → is_there (if b then Some p else o) ≡ true → (if b then true else before) ≡ true
started_if true p o before there is = refl
started_if false p o before there is = there is

states_if : (layout : Layout) (all : List State) (b : Bool) (records room : ℕ) (s : State) (ss : List State) → room ≡ record_room s.word
    → ((word : ℕ) (t : State) → IsStateAt layout records (if b then s ∷ ss else ss) word t → IsStateAt layout 0 all word t)
    → (word : ℕ) (t : State) → IsStateAt layout (if b then records + room else records) ss word t → IsStateAt layout 0 all word t
states_if layout all true records room s ss is lift word t stands =
    lift word t (inr (subst (λ r. IsStateAt layout (records + r) ss word t) is stands))
states_if layout all false records room s ss is lift word t stands = lift word t stands

max_left : (m n k : ℕ) → max m n ≤ k → m ≤ k
max_left m n k le = omega arith

max_right : (m n k : ℕ) → max m n ≤ k → n ≤ k
max_right m n k le = omega arith

-- the word that is kept behind this packet, and its state
view_if : (layout : Layout) (all : List State) (later : List (List ℕ)) (b : Bool) (n records report : ℕ) (s : State) (ss : List State) (before : Option ℕ) (drawn : ℕ) (kept : Kept)
    → (b ≡ true → report ≡ layout.place + layout.records + records + s.word % 16) → s.max_index ≡ greatest later
    → ((word : ℕ) (t : State) → IsStateAt layout records (if b then s ∷ ss else ss) word t → IsStateAt layout 0 all word t)
    → kept.word ≡ (if b then Some report else before)
    → (1 ≤ n → (word : ℕ) × ((t : State) × ((before ≡ Some word) × (IsStateAt layout 0 all word t × ((if b then 0 else max drawn (greatest later)) ≤ t.max_index)))))
    → 1 ≤ (if b then n + 1 else n) → InView layout all later kept
view_if layout all later true n records report s ss before drawn kept here most lift is old some =
    record { word = report; most = s; kept_word = is; is_state = lift report s (inl (here refl, refl)); upto = omega (arith, most) }
view_if layout all later false n records report s ss before drawn kept here most lift is old some =
    let o = old some in
    let le = o.1.1.1.1 in
    record { word = o.0; most = o.1.0; kept_word = is ∙ o.1.1.0; is_state = o.1.1.1.0; upto = max_right drawn (greatest later) o.1.0.max_index le }

-- A packet of the same opcode leads to the same choices.
step : (given : GivenModel) (layout : Layout) (config : Config) (all : List State) (earlier later : List (List ℕ)) (p text : List ℕ) (kept : Kept)
    → Goes layout config all earlier (p ∷ later) kept
    → opcode text ≡ opcode p
    → (opcode p ≡ tile_binning_mode → config_in text ≡ config)
    → (opcode p ≡ gl_shader_state → u32_at text 1 ≡ layout.place + layout.records + records_in earlier + u32_at p 1 % 16)
    → Goes layout config all (p ∷ earlier) later (kept_after kept text)
unfolding kept_after
step given layout config all earlier later p text kept goes same report_config report_word =
    let same_state : (opcode text == gl_shader_state) ≡ (opcode p == gl_shader_state) = ap (λ o. o == gl_shader_state) same in
    let same_config : (opcode text == tile_binning_mode) ≡ (opcode p == tile_binning_mode) = ap (λ o. o == tile_binning_mode) same in
    let same_start : (opcode text == start_tile_binning) ≡ (opcode p == start_tile_binning) = ap (λ o. o == start_tile_binning) same in
    record {
      view = λ some.
          view_if layout all later (opcode p == gl_shader_state) (states_in earlier) (records_in earlier) (u32_at text 1) (state (u32_at p 1) (greatest later)) (states_of later) kept.word (draws_to p)
          (kept_after kept text) (λ is. report_word (eqb-true (opcode p) gl_shader_state is)) refl goes.states
          (ap (λ b. if b then Some (u32_at text 1) else kept.word) same_state)
          (λ one. let v = goes.view one in (v.word, (v.most, (v.kept_word, (v.is_state, v.upto)))))
          some;
      config_is = λ there.
          ap (λ b. if b then Some (config_in text) else kept.config) same_config
          ∙ config_if (opcode p == tile_binning_mode) p (latest tile_binning_mode earlier) (config_in text) config kept.config
          (λ is. report_config (eqb-true (opcode p) tile_binning_mode is)) goes.config_is there;
      started_is = λ there.
          ap (λ b. if b then true else kept.started) same_start
          ∙ started_if (opcode p == start_tile_binning) p (latest start_tile_binning earlier) kept.started goes.started_is there;
      states =
          states_if layout all (opcode p == gl_shader_state) (records_in earlier) (record_room (u32_at p 1)) (state (u32_at p 1) (greatest later)) (states_of later) refl goes.states;
    }

-- A packet that is dropped tells nothing that the binner keeps.
skip : (layout : Layout) (config : Config) (all : List State) (earlier later : List (List ℕ)) (p : List ℕ) (kept : Kept)
    → Goes layout config all earlier (p ∷ later) kept → opcode p ≡ buffer_handles → Goes layout config all (p ∷ earlier) later kept
skip layout config all earlier later p kept goes is =
    let s : (opcode p == gl_shader_state) ≡ false = ap (λ o. o == gl_shader_state) is in
    let c : (opcode p == tile_binning_mode) ≡ false = ap (λ o. o == tile_binning_mode) is in
    let b : (opcode p == start_tile_binning) ≡ false = ap (λ o. o == start_tile_binning) is in
    record {
      view = λ some.
          view_if layout all later (opcode p == gl_shader_state) (states_in earlier) (records_in earlier) 0 (state (u32_at p 1) (greatest later)) (states_of later) kept.word (draws_to p) kept
          (λ yes. absurd (false≢true (sym s ∙ yes))) refl goes.states
          (sym (ap (λ x. if x then Some 0 else kept.word) s))
          (λ one. let v = goes.view one in (v.word, (v.most, (v.kept_word, (v.is_state, v.upto)))))
          some;
      config_is = λ there. goes.config_is (sym (ap (λ x. is_there (if x then Some p else latest tile_binning_mode earlier)) c) ∙ there);
      started_is = λ there. goes.started_is (sym (ap (λ x. is_there (if x then Some p else latest start_tile_binning earlier)) b) ∙ there);
      states =
          states_if layout all (opcode p == gl_shader_state) (records_in earlier) (record_room (u32_at p 1)) (state (u32_at p 1) (greatest later)) (states_of later) refl goes.states;
    }

-- What a packet is emitted as, kind by kind.
index_is : (given : GivenModel) (layout : Layout) (seen : Seen) (p : List ℕ) → opcode p ≡ indexed_primitive_list → packet_text given layout seen p ≡ index_text given seen p
unfolding packet_text
index_is given layout seen p is = rw is refl

state_is : (given : GivenModel) (layout : Layout) (seen : Seen) (p : List ℕ) → opcode p ≡ gl_shader_state → packet_text given layout seen p ≡ state_text layout seen p
unfolding packet_text
state_is given layout seen p is = rw is refl

config_is : (given : GivenModel) (layout : Layout) (seen : Seen) (p : List ℕ) → opcode p ≡ tile_binning_mode → packet_text given layout seen p ≡ config_text layout p
unfolding packet_text
config_is given layout seen p is = rw is refl

array_is : (given : GivenModel) (layout : Layout) (seen : Seen) (p : List ℕ) → opcode p ≡ array_primitive_list → packet_text given layout seen p ≡ p
unfolding packet_text
array_is given layout seen p is = rw is refl

text_choice : (P : List ℕ → Type 0) (h a b c : Bool) (x y z p : List ℕ) → h ≡ false → (a ≡ true → P x) → (b ≡ true → P y) → (c ≡ true → P z) → P p
    → P (if h then [] else (if a then x else (if b then y else (if c then z else p))))
text_choice P true a b c x y z p kept one two three other = absurd (false≢true (sym kept))
text_choice P false true b c x y z p kept one two three other = one refl
text_choice P false false true c x y z p kept one two three other = two refl
text_choice P false false false true x y z p kept one two three other = three refl
text_choice P false false false false x y z p kept one two three other = other

pub long_indexed : bin_length indexed_primitive_list ≡ 14
unfolding bin_length
long_indexed = refl

pub long_state : bin_length gl_shader_state ≡ 5
unfolding bin_length
long_state = refl

pub long_config : bin_length tile_binning_mode ≡ 16
unfolding bin_length
long_config = refl

long_flush : bin_length flush ≡ 1
unfolding bin_length
long_flush = refl

-- what the layout and the tables promise
pub record Premises (given : GivenModel) (layout : Layout) : Type 0 where
  pub few : given.declared ≤ 65536
  pub low : IsLow layout
  pub buffers : (number : ℕ) → number < length given.table.buffers → (buffer_at given.table.buffers number).place + (buffer_at given.table.buffers number).size ≤ most_place

record IsText (p text : List ℕ) : Type 0 where
  same : opcode text ≡ opcode p
  long : length text ≡ bin_length (opcode p)

-- the indexes' place in memory is below 2^32
low_indexes : (given : GivenModel) (layout : Layout) (seen : Seen) (p : List ℕ) → Premises given layout → first_of (packet_questions given seen p) ≡ None → opcode p ≡ indexed_primitive_list
    → (index_buffer given seen).place + u32_at p 6 < 2 ^ 32
unfolding index_buffer
low_indexes given layout seen p premises none is =
    let fine = indexed_fine given seen p none is in
    let ends = premises.buffers (slice_index given.handles seen.index_handle) fine.buffer.0.1 in
    let inside : u32_at p 6 + u32_at p 2 * index_size p ≤ (buffer_at given.table.buffers (slice_index given.handles seen.index_handle)).size = fine.inside in
    omega arith

is_text : (given : GivenModel) (layout : Layout) (seen : Seen) (p : List ℕ) → Premises given layout → first_of (packet_questions given seen p) ≡ None
    → length p ≡ bin_length (opcode p) → (opcode p == buffer_handles) ≡ false → IsText p (packet_text given layout seen p)
unfolding packet_text index_text
is_text given layout seen p premises none whole kept =
    text_choice (IsText p) (opcode p == buffer_handles) (opcode p == indexed_primitive_list) (opcode p == gl_shader_state) (opcode p == tile_binning_mode) _ _ _ p kept
    (λ yes.
    let is = eqb-true (opcode p) indexed_primitive_list yes in
    let long : bin_length (opcode p) ≡ 14 = ap bin_length is ∙ long_indexed in
    let report = addressed p ((index_buffer given seen).place + u32_at p 6) (whole ∙ long) (low_indexes given layout seen p premises none is) in
    record { same = report.same_opcode; long = report.long ∙ sym long })
    (λ yes.
    let is = eqb-true (opcode p) gl_shader_state yes in
    record { same = state_opcode layout seen p ∙ sym is; long = state_long layout seen p ∙ sym (ap bin_length is ∙ long_state) })
    (λ yes.
    let is = eqb-true (opcode p) tile_binning_mode yes in
    record { same = config_opcode layout p ∙ sym is; long = config_long layout p ∙ sym (ap bin_length is ∙ long_config) })
    (record { same = refl; long = whole })

-- Primitives.
pub draws_indexed : (p : List ℕ) → opcode p ≡ indexed_primitive_list → draws_to p ≡ u32_at p 10
unfolding draws_to
draws_indexed p is = rw is refl

greatest_draw : (p : List ℕ) (later : List (List ℕ)) → (opcode p == gl_shader_state) ≡ false → greatest (p ∷ later) ≡ max (draws_to p) (greatest later)
greatest_draw p later other = ap (λ b. if b then 0 else max (draws_to p) (greatest later)) other

drawn_most : (p : List ℕ) (later : List (List ℕ)) (most : ℕ) → (opcode p == gl_shader_state) ≡ false → greatest (p ∷ later) ≤ most → draws_to p ≤ most
drawn_most p later most other upto = max_left (draws_to p) (greatest later) most (subst (λ n. n ≤ most) (greatest_draw p later other) upto)

draw_indexed : (given : GivenModel) (layout : Layout) (config : Config) (all : List State) (earlier later : List (List ℕ)) (p : List ℕ) (kept : Kept)
    → Premises given layout → first_of (packet_questions given (seen_before earlier) p) ≡ None → length p ≡ bin_length (opcode p)
    → Goes layout config all earlier (p ∷ later) kept → opcode p ≡ indexed_primitive_list
    → Drawing (IsDrawn given.table given.handles layout all) kept (index_text given (seen_before earlier) p)
unfolding index_text index_buffer seen_before
draw_indexed given layout config all earlier later p kept premises none whole goes is =
    let seen = seen_before earlier in
    let fine = indexed_fine given seen p none is in
    let view = goes.view fine.primitive.states in
    let b = buffer_at given.table.buffers (slice_index given.handles seen.index_handle) in
    let n = b.place + u32_at p 6 in
    let report = addressed p n (whole ∙ ap bin_length is ∙ long_indexed) (low_indexes given layout seen p premises none is) in
    let text : List ℕ = with_bytes p 6 (to_le_bytes w32 n) in
    let here : opcode text ≡ indexed_primitive_list = report.same_opcode ∙ is in
    let draws : draws_to text ≡ draws_to p = draws_indexed text here ∙ report.most ∙ sym (draws_indexed p is) in
    let most : draws_to p ≤ view.most.max_index = drawn_most p later view.most.max_index (ap (λ o. o == gl_shader_state) is) view.upto in
    let count : u32_at text 2 * index_size text ≡ u32_at p 2 * index_size p = ap (λ c. c * index_size text) report.count ∙ ap (λ w. u32_at p 2 * w) report.wide in
    let inside : u32_at p 6 + u32_at p 2 * index_size p ≤ b.size = fine.inside in
    record {
      word = view.word;
      kept_word = view.kept_word;
      started = goes.started_is fine.primitive.started;
      allowed = record {
        state = view.most;
        is_state = view.is_state;
        most = omega (arith, draws, most);
        indexes = λ yes. record {
          handle = seen.index_handle;
          buffer = fine.buffer;
          from = omega (arith, report.address);
          upto = omega (arith, report.address, count, inside);
        };
        array = λ yes. absurd (let e : indexed_primitive_list ≡ array_primitive_list = sym here ∙ yes in omega (arith, e));
      };
    }

draw_array : (given : GivenModel) (layout : Layout) (config : Config) (all : List State) (earlier later : List (List ℕ)) (p : List ℕ) (kept : Kept)
    → first_of (packet_questions given (seen_before earlier) p) ≡ None
    → Goes layout config all earlier (p ∷ later) kept → opcode p ≡ array_primitive_list
    → Drawing (IsDrawn given.table given.handles layout all) kept p
unfolding seen_before
draw_array given layout config all earlier later p kept none goes is =
    let fine = array_fine given (seen_before earlier) p none is in
    let view = goes.view fine.primitive.states in
    record {
      word = view.word;
      kept_word = view.kept_word;
      started = goes.started_is fine.primitive.started;
      allowed = record {
        state = view.most;
        is_state = view.is_state;
        most = drawn_most p later view.most.max_index (ap (λ o. o == gl_shader_state) is) view.upto;
        indexes = λ yes. absurd (let e : array_primitive_list ≡ indexed_primitive_list = sym is ∙ yes in omega (arith, e));
        array = λ yes. fine.fits;
      };
    }

-- What is known of the whole list, while the packets before these have been read.
pub record Known (given : GivenModel) (layout : Layout) (config : Config) (earlier later : List (List ℕ)) : Type 0 where
  pub premises : Premises given layout
  pub fine : first_of (questions_of_packets given (onto earlier later)) ≡ None
  pub cuts : AreCut later
  pub some : AreSome earlier
  pub inside : place (onto earlier later) ≤ given.size
  pub short : given.size ≤ most_list
  pub ends : last_opcode (onto earlier later) ≡ flush
  pub there : is_there (latest tile_binning_mode (onto earlier later)) ≡ true
  pub grid : config ≡ config_of layout (byte_of 13 (latest tile_binning_mode (onto earlier later))) (byte_of 14 (latest tile_binning_mode (onto earlier later)))

known_next : (given : GivenModel) (layout : Layout) (config : Config) (earlier later : List (List ℕ)) (p : List ℕ) → Known given layout config earlier (p ∷ later)
    → Known given layout config (p ∷ earlier) later
known_next given layout config earlier later p known =
    record {
      premises = known.premises;
      fine = known.fine;
      cuts = known.cuts.3;
      some = (known.cuts.0, known.some);
      inside = known.inside;
      short = known.short;
      ends = known.ends;
      there = known.there;
      grid = known.grid;
    }

-- no halt stands in the list: it would be its last packet
no_halt : (given : GivenModel) (layout : Layout) (config : Config) (earlier later : List (List ℕ)) (p : List ℕ) → Known given layout config earlier (p ∷ later) → opcode p ≢ halt
no_halt given layout config earlier later p known is =
    let none : later ≡ [] = known.cuts.2 is in
    let last : opcode p ≡ flush = sym (ap (λ l. last_opcode (onto (p ∷ earlier) l)) none) ∙ known.ends in
    let e : halt ≡ flush = sym is ∙ last in
    absurd (omega (arith, e))

-- a configuration is the list's one
one_config : (given : GivenModel) (layout : Layout) (config : Config) (earlier later : List (List ℕ)) (p : List ℕ) → Known given layout config earlier (p ∷ later)
    → opcode p ≡ tile_binning_mode → config_of layout (slice_index p 13) (slice_index p 14) ≡ config
one_config given layout config earlier later p known is =
    let here : latest tile_binning_mode (p ∷ earlier) ≡ Some p = ap (λ o. if o == tile_binning_mode then Some p else latest tile_binning_mode earlier) is in
    let last : latest tile_binning_mode (onto (p ∷ earlier) later) ≡ Some p = kept_config given (p ∷ earlier) later known.fine (ap is_there here) ∙ here in
    sym (ap (λ o. config_of layout (byte_of 13 o) (byte_of 14 o)) last) ∙ sym known.grid

room_of : (n : ℕ) → slot_fits n ≡ true → alloc_offset n ≤ slot_size
unfolding slot_fits
room_of n fits = grind (arith, fits)

-- a flush is the list's last packet, so the configuration came before it
before_flush : (given : GivenModel) (layout : Layout) (config : Config) (earlier later : List (List ℕ)) (p : List ℕ) → Known given layout config earlier (p ∷ later)
    → first_of (packet_questions given (seen_before earlier) p) ≡ None → length p ≡ bin_length (opcode p) → opcode p ≡ flush → is_there (latest tile_binning_mode earlier) ≡ true
unfolding seen_before
before_flush given layout config earlier later p known none whole is =
    let at : place earlier + 1 ≡ given.size = flush_fine given (seen_before earlier) p none is in
    let one : length p ≡ 1 = whole ∙ ap bin_length is ∙ long_flush in
    let nothing : later ≡ [] = nothing_left (p ∷ earlier) later known.cuts.3 (let i = known.inside in omega arith) in
    let last : is_there (latest tile_binning_mode (p ∷ earlier)) ≡ true = sym (ap (λ l. is_there (latest tile_binning_mode (onto (p ∷ earlier) l))) nothing) ∙ known.there in
    sym (ap (λ o. is_there (if o == tile_binning_mode then Some p else latest tile_binning_mode earlier)) is) ∙ last

state_fits : (given : GivenModel) (layout : Layout) (config : Config) (earlier later : List (List ℕ)) (p : List ℕ) → Known given layout config earlier (p ∷ later)
    → first_of (packet_questions given (seen_before earlier) p) ≡ None → opcode p ≡ gl_shader_state → layout.place + layout.records + records_in earlier + u32_at p 1 % 16 < 2 ^ 32
unfolding seen_before
state_fits given layout config earlier later p known none is =
    let bound = records_bounded earlier in
    let declared : states_in earlier < given.declared = (state_fine given (seen_before earlier) p none is).0 in
    let few = known.premises.few in
    let a = known.premises.low.place in
    let b = known.premises.low.records in
    let m : u32_at p 1 % 16 < 16 = omega arith in
    omega arith

tame : (given : GivenModel) (layout : Layout) (config : Config) (all : List State) (earlier later : List (List ℕ)) (p : List ℕ) (kept : Kept)
    → Known given layout config earlier (p ∷ later) → Goes layout config all earlier (p ∷ later) kept → (opcode p == buffer_handles) ≡ false
    → Tame config (IsDrawn given.table given.handles layout all) kept (packet_text given layout (seen_before earlier) p)
unfolding seen_before
tame given layout config all earlier later p kept known goes other =
    let seen = seen_before earlier in
    let text = packet_text given layout seen p in
    let R : ℕ → List ℕ → Type 0 = IsDrawn given.table given.handles layout all in
    let none : first_of (packet_questions given seen p) ≡ None = packet_none given earlier p (onto_none given (p ∷ earlier) later known.fine) in
    let whole = whole_packet given seen p known.cuts.1 none in
    let report = is_text given layout seen p known.premises none whole other in
    let cut = cut_fine given seen p none in
    record {
      whole = report.long ∙ sym (ap bin_length report.same);
      known = λ zero_long. cut.0 (sym (ap bin_length report.same) ∙ zero_long);
      no_halt = λ is. no_halt given layout config earlier later p known (sym report.same ∙ is);
      no_handles = λ is. let e : (opcode p == buffer_handles) ≡ true = ap (λ o. o == buffer_handles) (sym report.same ∙ is) in false≢true (sym other ∙ e);
      configures = λ is.
          let here = sym report.same ∙ is in
          let grid = config_fine given seen p none here in
          ap config_in (config_is given layout seen p here)
          ∙ config_read layout p known.premises.low.slot (room_of (slice_index p 13 * slice_index p 14) grid.room)
          ∙ one_config given layout config earlier later p known here;
      starts = λ is. goes.config_is (start_fine given seen p none (sym report.same ∙ is));
      indexed = λ is.
          let here = sym report.same ∙ is in
          subst (Drawing R kept) (sym (index_is given layout seen p here)) (draw_indexed given layout config all earlier later p kept known.premises none whole goes here);
      array = λ is.
          let here = sym report.same ∙ is in
          subst (Drawing R kept) (sym (array_is given layout seen p here)) (draw_array given layout config all earlier later p kept none goes here);
      closes = λ is. goes.config_is (before_flush given layout config earlier later p known none whole (sym report.same ∙ is));
    }

next_kept : (given : GivenModel) (layout : Layout) (config : Config) (all : List State) (earlier later : List (List ℕ)) (p : List ℕ) (kept : Kept)
    → Known given layout config earlier (p ∷ later) → Goes layout config all earlier (p ∷ later) kept → (opcode p == buffer_handles) ≡ false
    → Goes layout config all (p ∷ earlier) later (kept_after kept (packet_text given layout (seen_before earlier) p))
unfolding seen_before
next_kept given layout config all earlier later p kept known goes other =
    let seen = seen_before earlier in
    let none : first_of (packet_questions given seen p) ≡ None = packet_none given earlier p (onto_none given (p ∷ earlier) later known.fine) in
    let whole = whole_packet given seen p known.cuts.1 none in
    let report = is_text given layout seen p known.premises none whole other in
    let it = tame given layout config all earlier later p kept known goes other in
    step given layout config all earlier later p (packet_text given layout seen p) kept goes report.same
    (λ is. it.configures (report.same ∙ is))
    (λ is. ap (λ t. u32_at t 1) (state_is given layout seen p is) ∙ state_word layout seen p (state_fits given layout config earlier later p known none is))

walks_if : (config : Config) (R : ℕ → List ℕ → Type 0) (kept : Kept) (b : Bool) (x : List ℕ) (xs : List (List ℕ))
    → (b ≡ true → Walks config R kept xs) → (b ≡ false → Tame config R kept x × Walks config R (kept_after kept x) xs)
    → Walks config R kept (if b then xs else x ∷ xs)
walks_if config R kept true x xs one two = one refl
walks_if config R kept false x xs one two = two refl

pub walk_on : (given : GivenModel) (layout : Layout) (config : Config) (all : List State) (earlier later : List (List ℕ)) (kept : Kept)
    → Known given layout config earlier later → Goes layout config all earlier later kept
    → Walks config (IsDrawn given.table given.handles layout all) kept (emission given layout earlier later)
walk_on given layout config all earlier [] kept known goes = tt
walk_on given layout config all earlier (p ∷ later) kept known goes =
    let next = known_next given layout config earlier later p known in
    walks_if config (IsDrawn given.table given.handles layout all) kept (opcode p == buffer_handles)
    (packet_text given layout (seen_before earlier) p) (emission given layout (p ∷ earlier) later)
    (λ is. walk_on given layout config all (p ∷ earlier) later kept next (skip layout config all earlier later p kept goes (eqb-true (opcode p) buffer_handles is)))
    (λ other. (
      tame given layout config all earlier later p kept known goes other,
      walk_on given layout config all (p ∷ earlier) later (kept_after kept (packet_text given layout (seen_before earlier) p)) next
          (next_kept given layout config all earlier later p kept known goes other),
    ))

-- The packets of a list are cut so.
head_take : (n o : ℕ) (body : List ℕ) → 1 ≤ n → get_or (take n (o ∷ body)) 0 0 ≡ o
head_take zero o body some = absurd (omega arith)
head_take (suc n) o body some = refl

take_short : (n : ℕ) (xs : List ℕ) → length (take n xs) ≤ n
take_short n xs = grind (arith, places)

front_short : (o : ℕ) (body : List ℕ) → length (front_packet (o ∷ body)) ≤ bin_taken (opcode (front_packet (o ∷ body)))
unfolding front_packet
front_short o body =
    let short = take_short (bin_taken o) (o ∷ body) in
    let e : bin_taken (opcode (take (bin_taken o) (o ∷ body))) ≡ bin_taken o = ap bin_taken (head_take (bin_taken o) o body (taken_some o)) in
    omega arith

halt_if : (b : Bool) (n : ℕ) (rest : List ℕ) → b ≡ true → front_packets n (if b then [] else rest) ≡ []
halt_if true zero rest is = refl
halt_if true (suc n) rest is = refl
halt_if false n rest is = absurd (false≢true is)

cut_behind : (n : ℕ) (o : ℕ) (body : List ℕ) → opcode (front_packet (o ∷ body)) ≡ halt → front_packets n (behind (o ∷ body)) ≡ []
unfolding front_packet behind
cut_behind n o body is =
    let some = taken_some o in
    halt_if (o == halt) n (drop (bin_taken o) (o ∷ body)) (eq-eqb o halt (sym (head_take (bin_taken o) o body some) ∙ is))

pub are_cut : (n : ℕ) (bytes : List ℕ) → AreCut (front_packets n bytes)
are_cut zero bytes = tt
are_cut (suc n) [] = tt
are_cut (suc n) (o ∷ body) = (front_some (o ∷ body) (omega arith), front_short o body, cut_behind n o body, are_cut n (behind (o ∷ body)))
