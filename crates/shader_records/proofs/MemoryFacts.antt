-- What is emitted, read back from the bytes of memory.
use Rattle.std.proofs.Common.{◌≡◌, ℕ, zero, suc, ◌+◌, ◌*◌, ◌/◌, ◌^◌, ◌<◌, List, [], ◌++◌, length, Option, Some, None, refl, sym, ap, subst, arith, ◌∙◌, inl, inr, append_assoc, length-append, take, drop}
use Rattle.std.proofs.{lemmas.Bool.cases_lt, lemmas.List.append-nil, lemmas.List.length-take-le, lemmas.List.take-append-drop}
use Rattle.std.specs.Int.{to_le_bytes, w32}
use Rattle.field_words.specs.{Words.u32_at, Pieces.IsPiece, WordBytes.word_bytes, Questions.first_of}
use Rattle.field_words.proofs.{Pieces.front_piece, Pieces.rest_piece, WordBytes.word_piece, Numbers.u32_of_piece}
use Rattle.qpu_isa.specs.Shader.{ShaderModel}
use Rattle.shader_records.specs.Sources.{state_at, record_source, record_offset, uniform_source, stream_offset, code_number, shader_behind, shader_used, taken_before, given_before}
use Rattle.shader_records.specs.Emission.{emitted_word, stream_place, record_text, records_text, stream_word_of, stream_text, streams_text, uniforms_text, emitted_records, emitted_uniforms, HasStreams}
use Rattle.shader_records.specs.{Inputs.InputModel, Inputs.AreInputs, Inputs.IsShaped, Named.AreInMemory, Named.IsEmittedIn}
use Rattle.shader_records.specs.Rules.{use_questions, all_questions}
use Rattle.packets.specs.StateWord.{record_room}
use Rattle.shader_records.proofs.Lengths.{IsStateInside, state_inside, length_streams, length_records, length_uniforms}
use Rattle.shader_records.proofs.{Fine.IsStateFine, Fine.state_fine, Steps.given_rises, Inside.emitted_in}
use Rattle.shader_records.proofs.StreamFacts.{stream_fits, word_fits}
use Rattle.shader_records.proofs.Shaders.{shaped}

-- A text that stands among others, which go before it and behind it.
pub record LiesIn (whole text : List ℕ) (at : ℕ) : Type 0 where
  pub before : List ℕ
  pub behind : List ℕ
  pub is : whole ≡ before ++ (text ++ behind)
  pub long : length before ≡ at

last_one : (front text : List ℕ) (at : ℕ) → length front ≡ at → LiesIn (front ++ text) text at
last_one front text at long = record { before = front; behind = []; is = ap (λ t. front ++ t) (sym (append-nil text)); long = long }

one_more : (whole text more : List ℕ) (at : ℕ) → LiesIn whole text at → LiesIn (whole ++ more) text at
one_more whole text more at stands =
    record {
      before = stands.before;
      behind = stands.behind ++ more;
      is =
          ap (λ w. w ++ more) stands.is
          ∙ append_assoc stands.before (text ++ stands.behind) more
          ∙ ap (λ t. stands.before ++ t) (append_assoc text stands.behind more);
      long = stands.long;
    }

-- The records, the streams of states and the streams of a state's shaders stand one after the other.
pub record_lies : (input : InputModel) (first n k : ℕ) → k < n
    → LiesIn (records_text input first n) (record_text input (record_source input k) (state_at input k).word (first + stream_offset input k)) (record_offset input k)
unfolding records_text
record_lies input first zero k below = absurd (omega arith)
record_lies input first (suc n) k below =
    elim (cases_lt k n) [
      | inl earlier ↦
          one_more (records_text input first n) (record_text input (record_source input k) (state_at input k).word (first + stream_offset input k))
          (record_text input (record_source input n) (state_at input n).word (first + stream_offset input n)) (record_offset input k) (record_lies input first n k earlier)
      | inr past ↦
          let same : n ≡ k = omega arith in
          subst (λ m. LiesIn (records_text input first n ++ record_text input (record_source input n) (state_at input n).word (first + stream_offset input n)) (record_text input (record_source input m) (state_at input m).word (first + stream_offset input m)) (record_offset input m)) same
          (last_one (records_text input first n) (record_text input (record_source input n) (state_at input n).word (first + stream_offset input n)) (record_offset input n) (length_records input first n))
    ]

pub streams_stand : (input : InputModel) (first n k : ℕ) → k < n
    → LiesIn (uniforms_text input first n) (streams_text input (record_source input k) (uniform_source input k) (first + stream_offset input k) 3) (stream_offset input k)
unfolding uniforms_text
streams_stand input first zero k below = absurd (omega arith)
streams_stand input first (suc n) k below =
    elim (cases_lt k n) [
      | inl earlier ↦
          one_more (uniforms_text input first n) (streams_text input (record_source input k) (uniform_source input k) (first + stream_offset input k) 3)
          (streams_text input (record_source input n) (uniform_source input n) (first + stream_offset input n) 3) (stream_offset input k) (streams_stand input first n k earlier)
      | inr past ↦
          let same : n ≡ k = omega arith in
          subst (λ m. LiesIn (uniforms_text input first n ++ streams_text input (record_source input n) (uniform_source input n) (first + stream_offset input n) 3) (streams_text input (record_source input m) (uniform_source input m) (first + stream_offset input m) 3) (stream_offset input m)) same
          (last_one (uniforms_text input first n) (streams_text input (record_source input n) (uniform_source input n) (first + stream_offset input n) 3) (stream_offset input n) (length_uniforms input first n))
    ]

pub stream_stands : (input : InputModel) (at from first n s : ℕ) → s < n
    → LiesIn (streams_text input at from first n) (stream_text input (from + taken_before input at s) (first + given_before input at s) (shader_used input at s)) (given_before input at s)
unfolding streams_text
stream_stands input at from first zero s below = absurd (omega arith)
stream_stands input at from first (suc n) s below =
    elim (cases_lt s n) [
      | inl earlier ↦
          one_more (streams_text input at from first n) (stream_text input (from + taken_before input at s) (first + given_before input at s) (shader_used input at s))
          (stream_text input (from + taken_before input at n) (first + given_before input at n) (shader_used input at n)) (given_before input at s) (stream_stands input at from first n s earlier)
      | inr past ↦
          let same : n ≡ s = omega arith in
          subst (λ m. LiesIn (streams_text input at from first n ++ stream_text input (from + taken_before input at n) (first + given_before input at n) (shader_used input at n)) (stream_text input (from + taken_before input at m) (first + given_before input at m) (shader_used input at m)) (given_before input at m)) same
          (last_one (streams_text input at from first n) (stream_text input (from + taken_before input at n) (first + given_before input at n) (shader_used input at n)) (given_before input at n) (length_streams input at from first n))
    ]

-- A text that stands in one that stands in memory stands there too.
pub piece_in : (memory whole text : List ℕ) (place at : ℕ) → IsPiece memory place (length whole) whole → LiesIn whole text at → IsPiece memory (place + at) (length text) text
piece_in memory whole text place at piece stands =
    let before : List ℕ = stands.before in
    let behind : List ℕ = stands.behind in
    let sum : length whole ≡ at + (length text + length behind) =
    ap length stands.is ∙ length-append before (text ++ behind) ∙ ap (λ n. n + length (text ++ behind)) stands.long ∙ ap (λ n. at + n) (length-append text behind) in
    let all : IsPiece memory place (at + (length text + length behind)) (before ++ (text ++ behind)) =
    subst (λ t. IsPiece memory place (at + (length text + length behind)) t) stands.is (subst (λ n. IsPiece memory place n whole) sum piece) in
    front_piece memory (place + at) (length text) (length behind) text behind refl (rest_piece memory place at (length text + length behind) before (text ++ behind) stands.long all)

stands_of_piece : (whole text : List ℕ) (at n : ℕ) → IsPiece whole at n text → LiesIn whole text at
stands_of_piece whole text at n piece =
    let inside = piece.inside in
    record {
      before = take at whole;
      behind = drop n (drop at whole);
      is =
          sym (take-append-drop at whole)
          ∙ ap (λ t. take at whole ++ t) (sym (take-append-drop n (drop at whole)))
          ∙ ap (λ t. take at whole ++ (t ++ drop n (drop at whole))) piece.same;
      long = length-take-le at whole (omega arith);
    }

-- Word i of words that stand in memory.
pub word_in_memory : (memory : List ℕ) (place : ℕ) (word : ℕ → ℕ) (n i : ℕ) → IsPiece memory place (length (word_bytes word n)) (word_bytes word n) → i < n → word i < 2 ^ 32
    → u32_at memory (place + 4 * i) ≡ word i
word_in_memory memory place word n i piece below fits =
    let here = word_piece word n i below in
    let inner = stands_of_piece (word_bytes word n) (to_le_bytes w32 (word i)) (4 * i) 4 here in
    u32_of_piece memory (place + 4 * i) (word i) fits (piece_in memory (word_bytes word n) (to_le_bytes w32 (word i)) place (4 * i) piece inner)

shaped_behind : (input : InputModel) (o : Option ℕ) (shader : ShaderModel) → AreInputs input → shader_behind input.shaders o ≡ Some shader → IsShaped shader
shaped_behind input None shader inputs used = cc
shaped_behind input (Some number) shader inputs used = shaped shader (inputs.shaders.sound number shader used)

shaped_used : (input : InputModel) (at s : ℕ) (shader : ShaderModel) → AreInputs input → shader_used input at s ≡ Some shader → IsShaped shader
unfolding shader_used
shaped_used input at s shader inputs used = shaped_behind input (code_number input at s) shader inputs used

-- Word i of the stream of shader s of state k.
stream_in_memory : (input : InputModel) (k first here : ℕ) (memory : List ℕ) (s : ℕ) (shader : ShaderModel) (i : ℕ) → s < 3
    → shader_used input (record_source input k) s ≡ Some shader → i < shader.uniforms → IsShaped shader → AreInMemory input → IsStateFine input k → IsStateInside input k
    → here ≡ first + stream_offset input k → first + length input.uniforms < 2 ^ 32
    → IsPiece memory here (length (streams_text input (record_source input k) (uniform_source input k) here 3)) (streams_text input (record_source input k) (uniform_source input k) here 3)
    → u32_at memory (stream_place input (record_source input k) here s + 4 * i) ≡ stream_word_of input (uniform_source input k + taken_before input (record_source input k) s) shader (stream_place input (record_source input k) here s) i
unfolding stream_place stream_text
stream_in_memory input k first here memory s shader i small used inside is fits fine room place limit state =
    let at : ℕ = record_source input k in
    let from : ℕ = uniform_source input k in
    let source : ℕ = from + taken_before input at s in
    let stream : ℕ = here + given_before input at s in
    let piece = piece_in memory (streams_text input at from here 3) (stream_text input source stream (shader_used input at s)) here (given_before input at s) state (stream_stands input at from here 3 s small) in
    let words : IsPiece memory stream (length (word_bytes (stream_word_of input source shader stream) shader.uniforms)) (word_bytes (stream_word_of input source shader stream) shader.uniforms) =
    subst (λ o. IsPiece memory stream (length (stream_text input source stream o)) (stream_text input source stream o)) used piece in
    let none : first_of (use_questions input source (Some shader)) ≡ None = ap (λ o. first_of (use_questions input source o)) (sym used) ∙ fine.of_use s small in
    let below = given_rises input at s small in
    let given = room.given in
    word_in_memory memory stream (stream_word_of input source shader stream) shader.uniforms i words inside
    (stream_fits input source shader stream i fits is none (omega (arith, below, given, place, limit)))

-- The streams of state k's shaders, in a memory that has all streams.
pub streams_in_memory : (input : InputModel) (records first : ℕ) (memory : List ℕ) (k : ℕ) → AreInputs input → AreInMemory input
    → first_of (all_questions input) ≡ None → k < length input.states → first + length input.uniforms < 2 ^ 32
    → IsEmittedIn input records first memory
    → HasStreams input (record_source input k) (uniform_source input k) (first + stream_offset input k) (u32_at memory)
streams_in_memory input records first memory k inputs fits none below room emitted =
    let at : ℕ = record_source input k in
    let from : ℕ = uniform_source input k in
    let here : ℕ = first + stream_offset input k in
    let all = streams_stand input first (length input.states) k below in
    let state = piece_in memory (emitted_uniforms input first) (streams_text input at from here 3) first (stream_offset input k) emitted.uniforms_are all in
    record {
      word = λ s shader i small used inside.
          stream_in_memory input k first here memory s shader i small used inside (shaped_used input at s shader inputs used) fits (state_fine input k none below) (state_inside input k none below) refl room state;
    }

-- Word i of state k's record.
pub record_in_memory : (input : InputModel) (records first : ℕ) (memory : List ℕ) (k i : ℕ) → AreInMemory input
    → first_of (all_questions input) ≡ None → k < length input.states → first + length input.uniforms < 2 ^ 32
    → IsEmittedIn input records first memory → 4 * i < record_room (state_at input k).word
    → u32_at memory (records + record_offset input k + 4 * i)
    ≡ emitted_word input (record_source input k) (state_at input k).word (stream_place input (record_source input k) (first + stream_offset input k)) i
unfolding record_text stream_place
record_in_memory input records first memory k i fits none below room emitted inside =
    let at : ℕ = record_source input k in
    let state : ℕ = (state_at input k).word in
    let here : ℕ = first + stream_offset input k in
    let fine = state_fine input k none below in
    let given = (state_inside input k none below).given in
    let whole = (emitted_in state).2 in
    let piece = piece_in memory (emitted_records input first) (record_text input at state here) records (record_offset input k) emitted.records_are (record_lies input first (length input.states) k below) in
    word_in_memory memory (records + record_offset input k) (emitted_word input at state (stream_place input at here)) (record_room state / 4) i piece (omega (arith, whole, inside))
    (word_fits input at state (state_at input k).max_index (stream_place input at here) i fits
    (λ s small. let rises = given_rises input at s small in omega (arith, rises, given, room)) fine.of_record)
