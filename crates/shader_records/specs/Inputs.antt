-- What the check of shader records is given: the states of the binner list, the parts of the job file,
-- the memory table with the job's handles, and what is known of each buffer's shader.
use Rattle.std.specs.Prelude.{◌≡◌, ℕ, ◌<◌, ◌≤◌, List, length, map, Option, Some, None, slice_index_or, is_some, not, true}
use Rattle.field_words.specs.Sizes.{most_list}
use Rattle.buffer_table.specs.{Table.TableModel, Table.buffer_at, Handles.AreNumbersOf, Handles.is_plain}
use Rattle.qpu_isa.specs.{declared.inst.Sample.Sample, declared.inst.ShaderInfo.ShaderInfo}
use Rattle.qpu_isa.specs.Shader.{ShaderModel, shader_view, sample_at, position, address_at, IsSoundShader}
use Rattle.bin_list.specs.declared.state.State.{State}

pub record InputModel : Type 0 where
  pub states : List State
  pub records : List ℕ
  pub uniforms : List ℕ
  pub table : TableModel
  pub handles : List ℕ
  pub shaders : List (Option ShaderModel)

abbrev pub shader_option : Option ShaderInfo → Option ShaderModel
shader_option None = None
shader_option (Some info) = Some (shader_view info)

abbrev pub shaders_view : List (Option ShaderInfo) → List (Option ShaderModel)
shaders_view shaders = map shader_option shaders

-- what is known of the shader in a buffer
abbrev pub shader_in : List (Option ShaderModel) → ℕ → Option ShaderModel
shader_in shaders number = slice_index_or shaders number None

-- There is one entry for each buffer, a shader exactly where its kind is Code, and each is sound.
pub record AreShadersOf (table : TableModel) (shaders : List (Option ShaderModel)) : Type 0 where
  pub count : length shaders ≡ length table.buffers
  pub code : (number : ℕ) → number < length table.buffers → is_plain (buffer_at table.buffers number).kind ≡ not (is_some (shader_in shaders number))
  pub sound : (number : ℕ) (shader : ShaderModel) → shader_in shaders number ≡ Some shader → IsSoundShader shader

-- What is true of each input.
pub record AreInputs (input : InputModel) : Type 0 where
  pub handles : AreNumbersOf input.table input.handles
  pub shaders : AreShadersOf input.table input.shaders

-- A sample has four places for positions, of which the first is filled, and all are in the stream.
pub record IsShapedSample (shader : ShaderModel) (sample : Sample) : Type 0 where
  pub four : length sample.p ≡ 4
  pub first : is_some (position sample 0) ≡ true
  pub below : (n k : ℕ) → position sample n ≡ Some k → k < shader.uniforms

-- All that the check asks of what is reported of a shader: its samples are like this, and its address words are in the stream. Two of these
-- words may be one, as in no sound shader.
pub record IsShaped (shader : ShaderModel) : Type 0 where
  pub samples : (i : ℕ) → i < length shader.samples → IsShapedSample shader (sample_at shader i)
  pub below : (j : ℕ) → j < length shader.address_words → address_at shader j < shader.uniforms

-- There is one entry for each buffer, and what is reported of a shader there has this shape.
pub record AreShaped (table : TableModel) (shaders : List (Option ShaderModel)) : Type 0 where
  pub count : length shaders ≡ length table.buffers
  pub each : (number : ℕ) (shader : ShaderModel) → shader_in shaders number ≡ Some shader → IsShaped shader

pub record AreShapedInputs (input : InputModel) : Type 0 where
  pub handles : AreNumbersOf input.table input.handles
  pub shaders : AreShaped input.table input.shaders

-- Its records and its uniforms are no longer than a job file has them.
pub record Fits (input : InputModel) : Type 0 where
  pub records : length input.records ≤ most_list
  pub uniforms : length input.uniforms ≤ most_list

-- the input of a job: what its binner list, its parts, its memory table and its shaders give
abbrev pub input_of : List State → List ℕ → List ℕ → TableModel → List ℕ → List (Option ShaderInfo) → InputModel
input_of states records uniforms table handles shaders =
    record { states = states; records = records; uniforms = uniforms; table = table; handles = handles; shaders = shaders_view shaders }
