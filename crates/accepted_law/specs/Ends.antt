-- Of which shaders the programs are that a job of an accepted file starts.
use Rattle.std.specs.Prelude.{◌≡◌, ◌<◌, ℕ, ◌+◌, ◌*◌, List, length, Some}
use Rattle.field_words.specs.Words.{u32_at}
use Rattle.buffer_table.specs.Handles.{code_of}
use Rattle.job_format.specs.Model.{FileModel}
use Rattle.job_check.specs.{Shaders.table_of, Shaders.content_of, Shaders.words_of, Jobs.job_of, Jobs.input_for, Jobs.states_in}
use Rattle.shader_records.specs.Sources.{record_source}
use Rattle.machine_law.specs.Begins.{DrawBegins}
use Rattle.promises.specs.Holdings.{plain_of, file_rights}

-- the words are those of a Code buffer that a handle of job j names
pub record IsShaderOf (f : FileModel) (j : ℕ) (code : List ℕ) : Type 0 where
  pub handle : ℕ
  pub number : ℕ
  pub named : code_of (table_of f) (job_of f j).handles handle ≡ Some number
  pub is : code ≡ words_of (content_of f number)

-- They are the handles of the three shaders in the source of the record of a state.
pub record AreHandlesOf (f : FileModel) (j fragment vertex coordinate : ℕ) : Type 0 where
  pub number : ℕ
  pub inside : number < length (states_in f j)
  pub fragment_is : fragment ≡ u32_at (job_of f j).records (record_source (input_for f j) number + 4 * 0)
  pub vertex_is : vertex ≡ u32_at (job_of f j).records (record_source (input_for f j) number + 4 * 1)
  pub coordinate_is : coordinate ≡ u32_at (job_of f j).records (record_source (input_for f j) number + 4 * 2)

-- The primitive may be drawn, and its three programs are of such shaders, which a state's record names.
pub record DrawShaders (f : FileModel) (j : ℕ) (m : List ℕ) (word : ℕ) (packet : List ℕ) : Type 0 where
  pub begins : DrawBegins (file_rights f) (plain_of f) m j word packet
  pub fragment : IsShaderOf f j begins.fragment.home.code
  pub vertex : IsShaderOf f j begins.vertex.home.code
  pub coordinate : IsShaderOf f j begins.coordinate.home.code
  pub handles : AreHandlesOf f j fragment.handle vertex.handle coordinate.handle
