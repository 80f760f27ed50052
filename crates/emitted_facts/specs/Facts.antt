-- What emission promises to whoever runs what was emitted.
--
-- IsNamed says which intervals of memory (place and size) are data that the job may name, and IsShader
-- which places hold the code of a shader of which so much is known: who emits and who runs say it in
-- their own ways. Words of a stream or a record are given by number, and those of memory by place.
use Rattle.std.specs.Prelude.{◌≡◌, ℕ, ◌+◌, ◌*◌, ◌/◌, ◌==◌, ◌<◌, ◌≤◌, true, false, not, List, length, Option, Some, None, slice_index, if◌then◌else◌}
use Rattle.field_words.specs.{Questions.first_of, Words.u32_at}
use Rattle.qpu_isa.specs.{declared.inst.Sample.Sample, Shader.ShaderModel, Shader.sample_at, Shader.position, Shader.address_at}
use Rattle.texture_layouts.specs.Fits.{texture_questions}
use Rattle.emitted_facts.specs.Records.{attribute_size, attribute_stride, is_single, address_word}
use Rattle.packets.specs.StateWord.{attribute_count}

-- the word at a position, 0 where there is none
abbrev pub word_or_zero : (ℕ → ℕ) → Option ℕ → ℕ
word_or_zero word None = 0
word_or_zero word (Some k) = word k

-- set-up word n of a sample
abbrev pub setup : (ℕ → ℕ) → Sample → ℕ → ℕ
setup word sample n = word_or_zero word (position sample n)

-- The first word is a place in a buffer, counted from the buffer's own. A texture lies in the buffer as
-- no rule of textures objects to; a direct sample reads at most its bound past its base.
pub record IsSampleIn (IsNamed : ℕ → ℕ → Type 0) (word : ℕ → ℕ) (sample : Sample) : Type 0 where
  pub place : ℕ
  pub size : ℕ
  pub source : ℕ
  pub named : IsNamed place size
  pub base : setup word sample 0 ≡ source + place
  pub texture : sample.direct ≡ false → first_of (texture_questions source (setup word sample 1) (setup word sample 2) (setup word sample 3) size) ≡ None
  pub direct : sample.direct ≡ true → source + setup word sample 1 + 4 ≤ size

-- Each address word is the stream's own place, and each sample reads in a buffer.
pub record IsStream (IsNamed : ℕ → ℕ → Type 0) (shader : ShaderModel) (stream : ℕ) (word : ℕ → ℕ) : Type 0 where
  pub addresses : (j : ℕ) → j < length shader.address_words → word (address_at shader j) ≡ stream
  pub samples : (i : ℕ) → i < length shader.samples → IsSampleIn IsNamed word (sample_at shader i)

-- The data of vertices up to the greatest index lie in one buffer.
pub record IsAttributeIn (IsNamed : ℕ → ℕ → Type 0) (state : ℕ) (word : ℕ → ℕ) (most t : ℕ) : Type 0 where
  pub place : ℕ
  pub size : ℕ
  pub named : IsNamed place size
  pub from : place ≤ word (address_word t)
  pub upto : (index : ℕ) → index ≤ most → word (address_word t) + attribute_stride state word t * index + attribute_size word t ≤ place + size

-- A record starts a shader with a stream that was made for just that shader.
pub record IsUse (IsNamed : ℕ → ℕ → Type 0) (IsShader : ℕ → ShaderModel → Type 0) (memory : ℕ → ℕ) (code stream : ℕ) : Type 0 where
  pub shader : ShaderModel
  pub starts : IsShader code shader
  pub takes : IsStream IsNamed shader stream (λ k. memory (stream + 4 * k))

-- The record of a state, whose primitives draw vertices up to the index `most`: its three shaders, of
-- which only the fragment shader may switch threads and does exactly where the flags say so, and its
-- attributes.
pub record IsRecord (IsNamed : ℕ → ℕ → Type 0) (IsShader : ℕ → ShaderModel → Type 0) (state most : ℕ) (word memory : ℕ → ℕ) : Type 0 where
  pub fragment : IsUse IsNamed IsShader memory (word 1) (word 2)
  pub vertex : IsUse IsNamed IsShader memory (word 4) (word 5)
  pub coordinate : IsUse IsNamed IsShader memory (word 7) (word 8)
  pub single : is_single word ≡ not fragment.shader.threaded
  pub vertex_single : vertex.shader.threaded ≡ false
  pub coordinate_single : coordinate.shader.threaded ≡ false
  pub attributes : (t : ℕ) → t < attribute_count state → IsAttributeIn IsNamed state word most t

-- An indexed primitive, 14 bytes: mode and index type, length, the address of its indexes, the greatest
-- index. Its indexes lie in one buffer, and none is over `most` (what the machine reads above the
-- greatest index draws nothing).
pub record IsIndexedPrimitive (IsNamed : ℕ → ℕ → Type 0) (packet : List ℕ) (most : ℕ) : Type 0 where
  pub place : ℕ
  pub size : ℕ
  pub named : IsNamed place size
  pub from : place ≤ u32_at packet 6
  pub upto : u32_at packet 6 + u32_at packet 2 * (if slice_index packet 1 / 16 == 0 then 1 else 2) ≤ place + size
  pub greatest : u32_at packet 10 ≤ most

-- An array primitive, 10 bytes: mode, length, first index. Its last index isn't over `most`.
pub record IsArrayPrimitive (packet : List ℕ) (most : ℕ) : Type 0 where
  pub greatest : 0 < u32_at packet 2 → u32_at packet 6 + u32_at packet 2 ≤ most + 1

-- a packet that draws is one of the two
pub record IsPrimitive (IsNamed : ℕ → ℕ → Type 0) (packet : List ℕ) (most : ℕ) : Type 0 where
  pub indexed : slice_index packet 0 ≡ 32 → IsIndexedPrimitive IsNamed packet most
  pub array : slice_index packet 0 ≡ 33 → IsArrayPrimitive packet most
