-- The state that a word in the emitted binner list points to, and where its record stands.
use Rattle.std.proofs.Common.{◌≡◌, ◌≤◌, ◌<◌, ℕ, zero, suc, ◌+◌, ◌-◌, ◌*◌, ◌%◌, true, List, [], ◌∷◌, length, drop, get_or, refl, sym, ◌∙◌, ap, subst, arith, inl, inr, length-drop, rules}
use Rattle.std.proofs.{Math.Seq.drop-cons, lemmas.Bool.cases_lt, lemmas.Grind.common_steps, lemmas.Bool.Decides.nat_tests}
use Rattle.field_words.specs.Words.{u32_at}
use Rattle.emitted_facts.specs.Facts.{IsAttributeIn, IsRecord}
use Rattle.packets.specs.StateWord.{attribute_count, record_size, record_room}
use Rattle.buffer_table.specs.Sound.{IsSound}
use Rattle.bin_list.specs.declared.state.State.{State}
use Rattle.bin_walks.specs.Draws.{IsStateAt}
use Rattle.relocation.specs.declared.layout.Layout.{Layout}
use Rattle.shader_records.specs.{Inputs.InputModel, Emitted.streams_place, Named.IsDataIn, Named.IsCodeIn}
use Rattle.shader_records.specs.Sources.{no_state, state_at, record_offset}
use Rattle.shader_records.proofs.{Inside.emitted_in, Lengths.length_records, RecordsInMemory.records_in_memory}
use Rattle.job_format.specs.Model.{FileModel}
use Rattle.job_check.specs.{Shaders.table_of, Emit.lengths_of, Jobs.job_of, Jobs.has_bin, Jobs.input_for, Jobs.layout_of, Jobs.records_of}
use Rattle.job_check.proofs.{Layouts.layout_apart, Layouts.layout_numbers, Layouts.begin_whole, Views.records_are}
use Rattle.machine_plan.specs.Regions.{Interval, Inside}
use Rattle.list_machine.specs.Fetch.{record_place}
use Rattle.list_law.specs.Emitted.{words_in, RecordLies}
use Rattle.list_law.proofs.Emitted.{same_count, same_extended}
use Rattle.promises.specs.{Rights.IsOneOf, Rights.IsFixed, Holdings.lists_of, Holdings.rights_at, Holdings.file_rights}
use Rattle.qpu_law.proofs.Reading.{one_inside}
use Rattle.machine_law.proofs.Begins.{fixed_inside}
use Rattle.accepted_law.specs.Settled.{Grounds}
use Rattle.accepted_law.proofs.Uses.{inputs_are, inputs_low, streams_low, emitted_stand}

-- The word points to the record of the state of this number.
pub record StateFound (input : InputModel) (layout : Layout) (word : ℕ) (state : State) : Type 0 where
  pub number : ℕ
  pub below : number < length input.states
  pub points : word ≡ layout.place + layout.records + record_offset input number + (state_at input number).word % 16
  pub same : state ≡ state_at input number

some_left : (states : List State) (i : ℕ) (first : State) (later : List State) → first ∷ later ≡ drop i states → i < length states
some_left states i first later cut = let long : suc (length later) ≡ length states - i = ap length cut ∙ length-drop i states in omega (arith, long)

-- the states from number i on, whose records stand from an offset on
found_from : (input : InputModel) (layout : Layout) (word : ℕ) (state : State) (i at : ℕ) (rest : List State) → rest ≡ drop i input.states → at ≡ record_offset input i
    → IsStateAt layout at rest word state → StateFound input layout word state
unfolding record_offset
found_from input layout word state i at [] rest offset none = absurd none
found_from input layout word state i at (first ∷ later) rest offset (inl here) = search (rules, arith, some_left, drop-cons)
found_from input layout word state i at (first ∷ later) rest offset (inr other) =
    let below = some_left input.states i first later rest in
    let cut : first ∷ later ≡ state_at input i ∷ drop (suc i) input.states = rest ∙ drop-cons input.states i no_state below in
    let one : first ≡ state_at input i = ap (λ states. get_or states 0 no_state) cut in
    let room : record_room first.word ≡ record_room (state_at input i).word = ap (λ s. record_room s.word) one in
    found_from input layout word state (suc i) (at + record_room first.word) later (ap (drop 1) cut) (λ j. offset j + room j) other

pub state_found : (input : InputModel) (layout : Layout) (word : ℕ) (state : State) → IsStateAt layout 0 input.states word state → StateFound input layout word state
unfolding record_offset
state_found input layout word state stands = found_from input layout word state 0 0 input.states refl refl stands

-- records stand at multiples of 16, one after the other
offset_whole : (input : InputModel) (k : ℕ) → record_offset input k % 16 ≡ 0
unfolding record_offset
offset_whole input zero = refl
offset_whole input (suc k) = let before = offset_whole input k in let size = (emitted_in (state_at input k).word).2 in omega (arith, before, size)

record_ends : (input : InputModel) (n k : ℕ) → k < n → record_offset input k + record_room (state_at input k).word ≤ record_offset input n
unfolding record_offset
record_ends input zero k below = absurd (omega (arith, below))
record_ends input (suc n) k below =
    elim (cases_lt k n) [
      | inl earlier ↦ let before = record_ends input n k earlier in omega (arith, before)
      | inr past ↦ let same : n ≡ k = omega arith in subst (λ i. record_offset input k + record_room (state_at input k).word ≤ record_offset input i + record_room (state_at input i).word) (sym same) (omega arith)
    ]

-- where the record of state k stands
unfoldable pub place_for : FileModel → ℕ → ℕ → ℕ
place_for f j k = (layout_of f j).place + (layout_of f j).records + record_offset (input_for f j) k

pub place_whole : (f : FileModel) (j k : ℕ) → IsSound f.mem_size f.regions f.buffers → place_for f j k % 16 ≡ 0
unfolding place_for
place_whole f j k sound =
    let offset = offset_whole (input_for f j) k in
    omega (arith, (layout_numbers f j (layout_of f j) refl).0, begin_whole f j sound, (layout_apart f j).records_aligned, offset)

pub place_of : (word base n : ℕ) → base % 16 ≡ 0 → word ≡ base + n % 16 → record_place word ≡ base
unfolding record_place
place_of word base n whole points = omega (arith, whole, points)

pub state_of : (word base n : ℕ) → base % 16 ≡ 0 → word ≡ base + n % 16 → n % 16 ≡ word % 16
state_of word base n whole points = omega (arith, whole, points)

-- the record of state k ends in the emitted records
record_room_in : (f : FileModel) (j k : ℕ) → has_bin f j ≡ true → k < length (input_for f j).states → record_offset (input_for f j) k + record_room (state_at (input_for f j) k).word ≤ length (records_of f j)
record_room_in f j k has below =
    let long : length (records_of f j) ≡ record_offset (input_for f j) (length (input_for f j).states) =
    ap length (sym (records_are f j has)) ∙ length_records (input_for f j) (streams_place (layout_of f j)) (length (input_for f j).states) in
    omega (arith, long, record_ends (input_for f j) (length (input_for f j).states) k below)

records_listed : (f : FileModel) (j : ℕ) → IsOneOf (lists_of f j) ((layout_of f j).place + (layout_of f j).records) (length (records_of f j))
unfolding lists_of lengths_of
records_listed f j = inr (inl refl)

-- The sizes of a record go by the low four bits of its word.
same_size : (state word : ℕ) → state % 16 ≡ word % 16 → record_size state ≡ record_size word
unfolding record_size
same_size state word is = grind (arith, common_steps, nat_tests, same_count, same_extended)

-- The record of state k, of which a word has the place and the low four bits, stands in memory; no job may write it.
pub record RecordKept (f : FileModel) (j : ℕ) (m : List ℕ) (word : ℕ) : Type 0 where
  pub stands : RecordLies (rights_at f j).region m word
  pub fixed : IsFixed (file_rights f) (record_place word) (record_size word)

pub record_kept : (f : FileModel) (j : ℕ) (m : List ℕ) (k word : ℕ) → Grounds f j m → has_bin f j ≡ true → k < length (input_for f j).states → record_place word ≡ place_for f j k
    → (state_at (input_for f j) k).word % 16 ≡ word % 16 → RecordKept f j m word
unfolding place_for
record_kept f j m k word grounds has below place_is is =
    let base : ℕ = (layout_of f j).place + (layout_of f j).records in
    let state : ℕ = (state_at (input_for f j) k).word in
    let room = record_room_in f j k has below in
    let size = (emitted_in state).0 in
    let same = same_size state word is in
    let from : base ≤ record_place word = omega (arith, place_is) in
    let upto : record_place word + record_size word ≤ base + length (records_of f j) = omega (arith, place_is, room, size, same) in
    record {
      stands = record {
        inside = one_inside (rights_at f j).region base (length (records_of f j)) (record_place word) (record_size word) (grounds.lists base (length (records_of f j)) (records_listed f j)) (record { from = from; upto = upto });
        bytes = λ i small. grounds.holds.bytes (record_place word + i);
      };
      fixed = fixed_inside (file_rights f) base (length (records_of f j)) (record_place word) (record_size word) (grounds.lists_fixed base (length (records_of f j)) (records_listed f j)) from upto;
    }

-- The record of state k is one of the facts of emission.
pub record_fact : (f : FileModel) (j : ℕ) (m : List ℕ) (k : ℕ) → Grounds f j m → has_bin f j ≡ true → k < length (input_for f j).states
    → IsRecord (IsDataIn (table_of f) (job_of f j).handles) (IsCodeIn (input_for f j)) (state_at (input_for f j) k).word (state_at (input_for f j) k).max_index (λ i. u32_at m (place_for f j k + 4 * i)) (u32_at m)
unfolding place_for input_for
record_fact f j m k grounds has below =
    records_in_memory (input_for f j) ((layout_of f j).place + (layout_of f j).records) (streams_place (layout_of f j)) m k (inputs_are f j grounds.settled) (inputs_low f j grounds.settled) (grounds.settled.records has) below (streams_low f j grounds.settled) (emitted_stand f j m grounds has)

-- Data that the job's handles name lie in its region, and so do attribute_count.
pub data_inside : (f : FileModel) (j : ℕ) (m : List ℕ) → Grounds f j m → (place size : ℕ) → IsDataIn (table_of f) (job_of f j).handles place size → Inside (rights_at f j).region place size
data_inside f j m grounds place size named =
    one_inside (rights_at f j).region place size place size (grounds.data_reads place size (grounds.named_data place size named)) (record { from = omega arith; upto = omega arith })

attribute_inside : (IsNamed : ℕ → ℕ → Type 0) (region : List Interval) (state : ℕ) (word : ℕ → ℕ) (most t : ℕ) → ((place size : ℕ) → IsNamed place size → Inside region place size)
    → IsAttributeIn IsNamed state word most t → IsAttributeIn (Inside region) state word most t
attribute_inside IsNamed region state word most t inside one = search (rules, arith)

pub attributes_of : (f : FileModel) (j : ℕ) (m : List ℕ) (k word : ℕ) → Grounds f j m → has_bin f j ≡ true → k < length (input_for f j).states → record_place word ≡ place_for f j k
    → (t : ℕ) → t < attribute_count (state_at (input_for f j) k).word
    → IsAttributeIn (Inside (rights_at f j).region) (state_at (input_for f j) k).word (words_in m word) (state_at (input_for f j) k).max_index t
attributes_of f j m k word grounds has below place_is t small =
    let state : State = state_at (input_for f j) k in
    let fact = (record_fact f j m k grounds has below).attributes t small in
    let there : IsAttributeIn (IsDataIn (table_of f) (job_of f j).handles) state.word (words_in m word) state.max_index t =
    subst (λ p. IsAttributeIn (IsDataIn (table_of f) (job_of f j).handles) state.word (λ i. u32_at m (p + 4 * i)) state.max_index t) (sym place_is) fact in
    attribute_inside (IsDataIn (table_of f) (job_of f j).handles) (rights_at f j).region state.word (words_in m word) state.max_index t (data_inside f j m grounds) there
