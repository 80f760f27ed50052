-- What is known of a shader: how many uniforms it takes, where its samples' set-up words and its
-- address words stand among them, and whether it switches threads.
use Rattle.std.specs.Prelude.{◌≡◌, ℕ, ◌<◌, ◌≤◌, Bool, false, List, [], length, is_some, true, Option, Some, None, slice_index, slice_index_or}
use Rattle.qpu_isa.specs.{declared.inst.Sample.Sample, declared.inst.ShaderInfo.ShaderInfo}

-- a shader's info, its vectors as lists
pub record ShaderModel : Type 0 where
  pub uniforms : ℕ
  pub samples : List Sample
  pub address_words : List ℕ
  pub threaded : Bool

abbrev pub shader_view : ShaderInfo → ShaderModel
shader_view info = record { uniforms = info.uniforms; samples = info.samples.items; address_words = info.address_words.items; threaded = info.threaded }

abbrev pub no_sample : Sample
no_sample = record { p = []; direct = false }

abbrev pub sample_at : ShaderModel → ℕ → Sample
sample_at shader i = slice_index_or shader.samples i no_sample

-- where set-up word n of a sample stands in the stream, None where there is no such word
abbrev pub position : Sample → ℕ → Option ℕ
position sample n = slice_index_or sample.p n None

abbrev pub or_zero : Option ℕ → ℕ
or_zero None = 0
or_zero (Some n) = n

abbrev pub first_position : Sample → ℕ
first_position sample = or_zero (position sample 0)

-- where address word j stands in the stream
abbrev pub address_at : ShaderModel → ℕ → ℕ
address_at shader j = slice_index shader.address_words j

-- A sample has four places for positions, of which the first two are filled, and none after an empty
-- one; all are in the stream, and none but the first is that of a word that emission changes.
pub record IsSoundSample (shader : ShaderModel) (sample : Sample) : Type 0 where
  pub four : length sample.p ≡ 4
  pub first : is_some (position sample 0) ≡ true
  pub second : is_some (position sample 1) ≡ true
  pub gapless : position sample 2 ≡ None → position sample 3 ≡ None
  pub below : (n k : ℕ) → position sample n ≡ Some k → k < shader.uniforms
  pub no_first : (n k : ℕ) → 1 ≤ n → position sample n ≡ Some k → (i : ℕ) → i < length shader.samples → first_position (sample_at shader i) ≡ k → ⊥
  pub no_address : (n k : ℕ) → 1 ≤ n → position sample n ≡ Some k → (j : ℕ) → j < length shader.address_words → address_at shader j ≡ k → ⊥

-- Each sample is sound, the address words are in the stream, and no two of the address words and the
-- samples' first words are one word.
pub record IsSoundShader (shader : ShaderModel) : Type 0 where
  pub samples : (i : ℕ) → i < length shader.samples → IsSoundSample shader (sample_at shader i)
  pub below : (j : ℕ) → j < length shader.address_words → address_at shader j < shader.uniforms
  pub addresses : (i j : ℕ) → i < j → j < length shader.address_words → address_at shader i ≡ address_at shader j → ⊥
  pub firsts : (i j : ℕ) → i < j → j < length shader.samples → first_position (sample_at shader i) ≡ first_position (sample_at shader j) → ⊥
  pub apart : (i j : ℕ) → i < length shader.samples → j < length shader.address_words → first_position (sample_at shader i) ≡ address_at shader j → ⊥
