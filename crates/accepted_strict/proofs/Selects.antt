-- The emitted record of each state of a strict file selects attributes of the state alone.
use Rattle.std.proofs.Common.{◌≡◌, ◌≤◌, ◌<◌, inl, inr, ℕ, suc, ◌+◌, ◌*◌, ◌/◌, ◌%◌, ◌^◌, ◌==◌, not, true, false, List, [], ◌∷◌, length, drop, slice_index, get_or, None, if◌then◌else◌, refl, sym, ◌∙◌, ap, subst, arith}
use Rattle.std.proofs.lemmas.Bool.{cases_lt, or_from}
use Rattle.std.proofs.lemmas.List.{get_or-drop, length-drop}
use Rattle.std.proofs.Math.Seq.{drop-cons}
use Rattle.std.specs.Int.{from_le_bytes, w32}
use Rattle.field_words.specs.{Questions.first_of, Questions.with_answers, Questions.each, Words.IsBytes, Words.u32_at}
use Rattle.field_words.proofs.Nones.{front_none, rest_none, each_none, none_answered}
use Rattle.field_words.proofs.Questions.{none_broken}
use Rattle.packets.specs.StateWord.{attribute_count}
use Rattle.bin_list.specs.declared.state.State.{State}
use Rattle.bin_walks.specs.Draws.{IsStateAt}
use Rattle.emitted_facts.proofs.Records.{header_in}
use Rattle.job_format.specs.Model.{FileModel}
use Rattle.job_check.specs.Jobs.{job_of, has_bin, input_for, layout_of, states_in}
use Rattle.list_machine.specs.Fetch.{record_place}
use Rattle.list_law.proofs.Emitted.{same_count}
use Rattle.shader_records.specs.{Inputs.InputModel, Emission.shader_word, Emission.stream_place}
use Rattle.shader_records.specs.Sources.{no_state, state_at, source_size, record_source, record_word, stream_offset}
use Rattle.shader_records.proofs.{Inside.emitted_in, MemoryFacts.record_in_memory, RecordFacts.emitted_shader}
use Rattle.accepted_law.specs.Settled.{Grounds}
use Rattle.accepted_law.proofs.States.{place_for, place_whole, place_of, state_of}
use Rattle.accepted_law.proofs.Uses.{inputs_low, streams_low, emitted_stand}
use Rattle.strict_lists.specs.Records.{selects_past, selection_questions}
use Rattle.strict_check.specs.Stages.{list_stage, records_stage, records_from, record_questions, use_questions, record_at, selection_refused, codes_stage, job_stages, strict_stages}
use Rattle.strict_law.specs.Records.{selects_missing}
use Rattle.accepted_strict.specs.Files.{FileStrict}
use Rattle.accepted_law.proofs.BinWalking.{found_in}

four_bytes : (bytes : List ℕ) → from_le_bytes w32 bytes ≡ get_or bytes 0 0 + 256 * get_or bytes 1 0 + 65536 * get_or bytes 2 0 + 16777216 * get_or bytes 3 0
four_bytes bytes = omega arith

-- The bytes of equal words are equal.
word_bytes : (bytes : List ℕ) (at : ℕ) → u32_at bytes at ≡ slice_index bytes at + 256 * slice_index bytes (at + 1) + 65536 * slice_index bytes (at + 2) + 16777216 * slice_index bytes (at + 3)
unfolding u32_at
word_bytes bytes at =
    let zeroth : get_or (drop at bytes) 0 0 ≡ slice_index bytes at = get_or-drop at bytes 0 0 ∙ ap (λ n. slice_index bytes n) (omega arith) in
    let first : get_or (drop at bytes) 1 0 ≡ slice_index bytes (at + 1) = get_or-drop at bytes 1 0 in
    let second : get_or (drop at bytes) 2 0 ≡ slice_index bytes (at + 2) = get_or-drop at bytes 2 0 in
    let third : get_or (drop at bytes) 3 0 ≡ slice_index bytes (at + 3) = get_or-drop at bytes 3 0 in
    let all = four_bytes (drop at bytes) in
    omega (arith, all, zeroth, first, second, third)

third_byte : (m source : List ℕ) (p q : ℕ) → IsBytes m → IsBytes source → u32_at m p ≡ u32_at source q → slice_index m (p + 2) ≡ slice_index source (q + 2)
third_byte m source p q bytes of_source is =
    let here = word_bytes m p in
    let there = word_bytes source q in
    omega (arith, here, there, is, bytes p, bytes (p + 1), bytes (p + 2), bytes (p + 3), of_source q, of_source (q + 1), of_source (q + 2), of_source (q + 3))

third : (s : ℕ) → (3 * s) % 3 ≡ 0
third s = omega arith

plain_by : (rest : ℕ) → rest ≡ 0 → (x y z : ℕ) → (if rest == 1 then x else (if rest == 2 then y else z)) ≡ z
plain_by rest none x y z = ap (λ r. if r == 1 then x else (if r == 2 then y else z)) none

plain_third : (input : InputModel) (at state : ℕ) (streams : ℕ → ℕ) (s : ℕ) → shader_word input at state streams (3 * s) ≡ record_word input at state (3 * s)
unfolding shader_word
plain_third input at state streams s = plain_by ((3 * s) % 3) (third s) _ _ (record_word input at state (3 * s))

-- One word of the record of state k is that of its source.
word_kept : (f : FileModel) (j : ℕ) (m : List ℕ) (k s : ℕ) → Grounds f j m → has_bin f j ≡ true → k < length (input_for f j).states → s < 3
    → u32_at m (place_for f j k + 4 * (3 * s)) ≡ record_word (input_for f j) (record_source (input_for f j) k) (state_at (input_for f j) k).word (3 * s)
unfolding place_for
word_kept f j m k s grounds some below small =
    let input : InputModel = input_for f j in
    let first : ℕ = (layout_of f j).place + (layout_of f j).uniforms in
    let at : ℕ = record_source input k in
    let state : ℕ = (state_at input k).word in
    record_in_memory input ((layout_of f j).place + (layout_of f j).records) first m k (3 * s) (inputs_low f j grounds.settled) (grounds.settled.records some) below (streams_low f j grounds.settled)
    (emitted_stand f j m grounds some) (omega (arith, header_in state, small, (emitted_in state).0))
    ∙ (emitted_shader input at state (stream_place input at (first + stream_offset input k)) (3 * s) (omega (arith, small)) ∙ plain_third input at state (stream_place input at (first + stream_offset input k)) s)

byte_kept : (f : FileModel) (j : ℕ) (m : List ℕ) (k s word : ℕ) → Grounds f j m → has_bin f j ≡ true → k < length (input_for f j).states → s < 3 → record_place word ≡ place_for f j k
    → slice_index m (record_place word + (12 * s + 2)) ≡ slice_index (job_of f j).records (record_at (record_source (input_for f j) k) (state_at (input_for f j) k).word + (12 * s + 2))
unfolding record_word input_for
byte_kept f j m k s word grounds some below small is =
    let input : InputModel = input_for f j in
    let from : ℕ = record_at (record_source input k) (state_at input k).word in
    let same = third_byte m (job_of f j).records (place_for f j k + 4 * (3 * s)) (from + 4 * (3 * s)) grounds.holds.bytes grounds.settled.job_fits.records (word_kept f j m k s grounds some below small) in
    ap (λ n. slice_index m n) (omega (arith, is)) ∙ (same ∙ ap (λ n. slice_index (job_of f j).records n) (omega arith))

none_there : (states : List State) (i k : ℕ) → [] ≡ drop i states → i ≤ k → k < length states → ⊥
none_there states i k cut from below =
    let long = ap length cut ∙ length-drop i states in
    omega (arith, long, from, below)

next_source : (input : InputModel) (i at : ℕ) (state : State) → at ≡ record_source input i → state ≡ state_at input i → at + source_size state.word ≡ record_source input (suc i)
unfolding record_source
next_source input i at state source one = ap (λ n. n + source_size state.word) source ∙ ap (λ (s : State). record_source input i + source_size s.word) one

-- The rules on the record of state k.
record_asked : (f : FileModel) (j k i at : ℕ) (rest : List State) → rest ≡ drop i (input_for f j).states → at ≡ record_source (input_for f j) i → i ≤ k → k < length (input_for f j).states → first_of (records_from f j at rest) ≡ None
    → first_of (record_questions f j (record_source (input_for f j) k) (state_at (input_for f j) k).word) ≡ None
record_asked f j k i at [] rest source from below none = absurd (none_there (input_for f j).states i k rest from below)
record_asked f j k i at (state ∷ later) rest source from below none =
    let input : InputModel = input_for f j in
    let inside : i < length input.states = omega (arith, from, below) in
    let cut : state ∷ later ≡ state_at input i ∷ drop (suc i) input.states = rest ∙ drop-cons input.states i no_state inside in
    let one : state ≡ state_at input i = ap (λ states. get_or states 0 no_state) cut in
    elim (cases_lt i k) [
      | inl before ↦
          record_asked f j k (suc i) (at + source_size state.word) later (ap (drop 1) cut) (next_source input i at state source one) (omega (arith, before)) below
          (rest_none (record_questions f j at state.word) (records_from f j (at + source_size state.word) later) none)
      | inr past ↦
          let same : i ≡ k = omega (arith, from, past) in
          subst (λ n. first_of (record_questions f j (record_source input n) (state_at input n).word) ≡ None) same
          (subst (λ p. first_of (record_questions f j p (state_at input i).word) ≡ None) source
          (subst (λ (s : State). first_of (record_questions f j at s.word) ≡ None) one (front_none (record_questions f j at state.word) (records_from f j (at + source_size state.word) later) none)))
    ]

-- So the emitted record of a state's word selects what is there.
none_past : (records : List ℕ) (from attributes : ℕ) → first_of (selection_questions records from attributes) ≡ None → (selects_past (slice_index records (from + 14)) attributes ≡ false) × (selects_past (slice_index records (from + 26)) attributes ≡ false)
unfolding selection_questions
none_past records from attributes none =
    let broken = none_broken (selection_questions records from attributes) none in
    (broken.0, broken.1.0)

job_asked : (f : FileModel) (j : ℕ) → FileStrict f → j < length f.jobs → first_of (records_from f j 0 (input_for f j).states) ≡ None
unfolding strict_stages job_stages records_stage input_for
job_asked f j strict inside =
    let jobs = rest_none (codes_stage f) (each (job_stages f) 0 (length f.jobs)) strict in
    rest_none (list_stage f j) (records_stage f j) (each_none (job_stages f) 0 (length f.jobs) j jobs (omega arith) (omega (arith, inside)))

source_selects : (f : FileModel) (j k : ℕ) → FileStrict f → j < length f.jobs → k < length (input_for f j).states
    → (let from : ℕ = record_at (record_source (input_for f j) k) (state_at (input_for f j) k).word in
    (selects_past (slice_index (job_of f j).records (from + 14)) (attribute_count (state_at (input_for f j) k).word) ≡ false) × (selects_past (slice_index (job_of f j).records (from + 26)) (attribute_count (state_at (input_for f j) k).word) ≡ false))
unfolding record_questions record_source
source_selects f j k strict inside below =
    let input : InputModel = input_for f j in
    let at : ℕ = record_source input k in
    let word : ℕ = (state_at input k).word in
    let asked = record_asked f j k 0 0 input.states refl refl (omega arith) below (job_asked f j strict inside) in
    let questions = selection_questions (job_of f j).records (record_at at word) (attribute_count word) in
    none_past (job_of f j).records (record_at at word) (attribute_count word)
    (none_answered (selection_refused j (record_at at word)) questions (rest_none (use_questions f j at) (with_answers (selection_refused j (record_at at word)) questions) asked))

past_same : (byte other n count : ℕ) → byte ≡ other → n ≡ count → selects_past other n ≡ false → not (byte / 2 ^ count == 0) ≡ false
unfolding selects_past
past_same byte other n count same as_many none = ap (λ b. not (b / 2 ^ count == 0)) same ∙ (ap (λ c. not (other / 2 ^ c == 0)) (sym as_many) ∙ none)

pub record_selects : (f : FileModel) (j : ℕ) (m : List ℕ) (word : ℕ) (state : State) → FileStrict f → Grounds f j m → has_bin f j ≡ true → IsStateAt (layout_of f j) 0 (states_in f j) word state → selects_missing m word ≡ false
unfolding selects_missing place_for
record_selects f j m word state strict grounds has is =
    let found = found_in f j word state is in
    let k : ℕ = found.number in
    let n : ℕ = (state_at (input_for f j) k).word in
    let whole = place_whole f j k grounds.settled.sound in
    let place_is = place_of word (place_for f j k) n whole found.points in
    let as_many : attribute_count n ≡ attribute_count word = same_count n word (state_of word (place_for f j k) n whole found.points) in
    let none = source_selects f j k strict grounds.settled.inside found.below in
    let vertex = byte_kept f j m k 1 word grounds has found.below (omega arith) place_is in
    let coordinate = byte_kept f j m k 2 word grounds has found.below (omega arith) place_is in
    or_from (not (slice_index m (record_place word + 14) / 2 ^ attribute_count word == 0)) (not (slice_index m (record_place word + 26) / 2 ^ attribute_count word == 0))
    (past_same (slice_index m (record_place word + 14)) (slice_index (job_of f j).records (record_at (record_source (input_for f j) k) n + 14)) (attribute_count n) (attribute_count word) vertex as_many none.0)
    (past_same (slice_index m (record_place word + 26)) (slice_index (job_of f j).records (record_at (record_source (input_for f j) k) n + 26)) (attribute_count n) (attribute_count word) coordinate as_many none.1)
