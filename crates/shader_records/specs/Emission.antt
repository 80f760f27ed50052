-- What is emitted of records and uniforms.
use Rattle.std.specs.Prelude.{◌≡◌, ◌<◌, slice_index, ℕ, zero, suc, ◌+◌, ◌*◌, ◌/◌, ◌-◌, ◌%◌, ◌==◌, Bool, false, ◌&&◌, ◌||◌, nat_lt, nat_le, List, [], ◌++◌, length, Option, Some, None, if◌then◌else◌}
use Rattle.field_words.specs.WordBytes.{word_bytes}
use Rattle.qpu_isa.specs.Shader.{ShaderModel, sample_at, first_position, address_at}
use Rattle.packets.specs.StateWord.{attribute_count, record_size, record_room}
use Rattle.shader_records.specs.Sources.{state_at, record_source, uniform_source, stream_offset, code_number, attribute_number, shader_used, taken_before, given_before, record_word, sample_number, source_word, place_in}
use Rattle.shader_records.specs.Inputs.{InputModel}

-- what is added to word k for the samples below n: the place of the buffer of the sample whose first
-- word it is
unfoldable pub place_added : InputModel → ℕ → ShaderModel → ℕ → ℕ → ℕ
place_added input from shader zero k = 0
place_added input from shader (suc n) k =
    if first_position (sample_at shader n) == k then place_in input.table (sample_number input from n) else place_added input from shader n k

unfoldable pub moved_word : InputModel → ℕ → ShaderModel → ℕ → ℕ → ℕ
moved_word input from shader n k = source_word input from shader k + place_added input from shader n k

-- word k is one of the first n address words
unfoldable pub is_address : ShaderModel → ℕ → ℕ → Bool
is_address shader zero k = false
is_address shader (suc n) k = is_address shader n k || address_at shader n == k

-- Word k of the stream that stands at a place, with its first n address words.
unfoldable pub addressed_word : InputModel → ℕ → ShaderModel → ℕ → ℕ → ℕ → ℕ
addressed_word input from shader stream n k =
    if is_address shader n k then stream else moved_word input from shader (length shader.samples) k

-- Word k of a stream: an address word is the stream's own place, a sample's first word is moved by its
-- buffer's place, and all others are those of the source.
abbrev pub stream_word_of : InputModel → ℕ → ShaderModel → ℕ → ℕ → ℕ
stream_word_of input from shader stream = addressed_word input from shader stream (length shader.address_words)

-- the stream of a shader whose uniforms begin at `from`, to stand at a place
unfoldable pub stream_text : InputModel → ℕ → ℕ → Option ShaderModel → List ℕ
stream_text input from stream None = []
stream_text input from stream (Some shader) = word_bytes (stream_word_of input from shader stream) shader.uniforms

-- the address of attribute t, moved by its buffer's place
abbrev pub moved_address : InputModel → ℕ → ℕ → ℕ → ℕ
moved_address input at state t = record_word input at state (9 + 2 * t) + place_in input.table (attribute_number input at t)

-- the first word of sample i, moved by its buffer's place
abbrev pub moved_first : InputModel → ℕ → ShaderModel → ℕ → ℕ
moved_first input from shader i = source_word input from shader (first_position (sample_at shader i)) + place_in input.table (sample_number input from i)

-- Word i of an attribute's two words (counted from word 9): the address moved by its buffer's place, and
-- the word after it as in the source.
unfoldable pub attribute_word : InputModel → ℕ → ℕ → ℕ → ℕ
attribute_word input at state j =
    if (j % 2 == 0) && nat_lt j (2 * attribute_count state)
    then record_word input at state (9 + j) + place_in input.table (attribute_number input at (j / 2))
    else record_word input at state (9 + j)

-- Word i of the first nine: the flags, and for each shader its code's place, its stream's place, and a
-- word as in the source.
unfoldable pub shader_word : InputModel → ℕ → ℕ → (ℕ → ℕ) → ℕ → ℕ
shader_word input at state streams i =
    if i % 3 == 1 then place_in input.table (code_number input at (i / 3)) else (if i % 3 == 2 then streams (i / 3) else record_word input at state i)

-- Word i of the record that is emitted: the source's with its places, and zeros past its end.
unfoldable pub emitted_word : InputModel → ℕ → ℕ → (ℕ → ℕ) → ℕ → ℕ
emitted_word input at state streams i =
    if nat_le (record_size state) (4 * i) then 0
    else (if nat_lt i 9 then shader_word input at state streams i else attribute_word input at state (i - 9))

-- word i of the record's source, and zeros past its end
unfoldable pub plain_word : InputModel → ℕ → ℕ → ℕ → ℕ
plain_word input at state i = if nat_le (record_size state) (4 * i) then 0 else record_word input at state i

-- where the streams of a record stand, if the first does at a place
unfoldable pub stream_place : InputModel → ℕ → ℕ → ℕ → ℕ
stream_place input at first s = first + given_before input at s

-- these are the three places
pub record AreStreamsOf (streams : List ℕ) (place : ℕ → ℕ) : Type 0 where
  pub three : length streams ≡ 3
  pub each : (s : ℕ) → s < 3 → slice_index streams s ≡ place s

-- the record whose source begins at `at`
unfoldable pub record_text : InputModel → ℕ → ℕ → ℕ → List ℕ
record_text input at state first = word_bytes (emitted_word input at state (stream_place input at first)) (record_room state / 4)

-- the records of the first k states, whose streams stand from a place on
unfoldable pub records_text : InputModel → ℕ → ℕ → List ℕ
records_text input first zero = []
records_text input first (suc k) =
    records_text input first k ++ record_text input (record_source input k) (state_at input k).word (first + stream_offset input k)

-- the streams of a record's first s shaders, and those of the first k states
unfoldable pub streams_text : InputModel → ℕ → ℕ → ℕ → ℕ → List ℕ
streams_text input at from first zero = []
streams_text input at from first (suc s) =
    streams_text input at from first s
    ++ stream_text input (from + taken_before input at s) (first + given_before input at s) (shader_used input at s)

unfoldable pub uniforms_text : InputModel → ℕ → ℕ → List ℕ
uniforms_text input first zero = []
uniforms_text input first (suc k) =
    uniforms_text input first k ++ streams_text input (record_source input k) (uniform_source input k) (first + stream_offset input k) 3

-- what is emitted of all states, for streams that stand from a place on
abbrev pub emitted_records : InputModel → ℕ → List ℕ
emitted_records input first = records_text input first (length input.states)

abbrev pub emitted_uniforms : InputModel → ℕ → List ℕ
emitted_uniforms input first = uniforms_text input first (length input.states)

-- Memory has the streams of a record's shaders, made of the uniforms from a place on.
pub record HasStreams (input : InputModel) (at from first : ℕ) (memory : ℕ → ℕ) : Type 0 where
  pub word : (s : ℕ) (shader : ShaderModel) (k : ℕ) → s < 3 → shader_used input at s ≡ Some shader → k < shader.uniforms
      → memory (stream_place input at first s + 4 * k) ≡ stream_word_of input (from + taken_before input at s) shader (stream_place input at first s) k
