-- What is so of the job, alone and beside another: it is accepted, and has what the laws on accepted jobs speak of.
use Rattle.std.specs.Prelude.{◌≡◌, ◌≢◌, ◌<◌, ℕ, true, false, List, length, Some, None}
use Rattle.field_words.specs.Words.{IsBytes}
use Rattle.job_format.specs.{File.IsFileOf, Model.FileModel, Reading.file_at, Text.file_text}
use Rattle.strict_check.specs.Whole.{strict_refusal_of}
use Rattle.job_check.specs.{Jobs.job_of, Jobs.has_bin, Jobs.input_for, Emit.memory_of, Whole.refusal_of}
use Rattle.qpu_isa.specs.Shader.{ShaderModel, sample_at}
use Rattle.shader_records.specs.Sources.{shader_used}
use Rattle.promises.specs.Apart.{jobs_of, AreNeighbourFiles, AlikeTo}
use Rattle.textured_job.specs.Job.{textured_file, two_clients, one_client}

-- The shader switches threads, so that two of it share a processor. It takes a texture, and reads a word directly.
pub record UsesAll (shader : ShaderModel) : Type 0 where
  pub threaded : shader.threaded ≡ true
  pub texture : ℕ
  pub texture_in : texture < length shader.samples
  pub is_texture : (sample_at shader texture).direct ≡ false
  pub direct : ℕ
  pub direct_in : direct < length shader.samples
  pub is_direct : (sample_at shader direct).direct ≡ true

-- Job j of a file has a binner list, and the record of its first state starts such a fragment shader.
pub record HasAll (f : FileModel) (j : ℕ) : Type 0 where
  pub bin : has_bin f j ≡ true
  pub states : 0 < length (input_for f j).states
  pub shader : ShaderModel
  pub drawn : shader_used (input_for f j) 0 0 ≡ Some shader
  pub uses : UsesAll shader

-- The bytes are accepted: they spell a file, which breaks no rule, also none of the strict ones.
pub record IsAccepted (bytes : List ℕ) : Type 0 where
  pub are_bytes : IsBytes bytes
  pub spells : IsFileOf bytes (file_at bytes)
  pub none : refusal_of bytes ≡ None
  pub strict : strict_refusal_of bytes ≡ None

-- They are, and the file has one job, which has all this.
pub record IsWitness (bytes : List ℕ) : Type 0 where
  pub accepted : IsAccepted bytes
  pub one_job : length (file_at bytes).jobs ≡ 1
  pub has : HasAll (file_at bytes) 0

-- They are, and the file has two jobs, of two clients, of which each has all this.
pub record IsWitnessOfTwo (bytes : List ℕ) : Type 0 where
  pub accepted : IsAccepted bytes
  pub two_jobs : length (file_at bytes).jobs ≡ 2
  pub two_clients : (job_of (file_at bytes) 0).client ≢ (job_of (file_at bytes) 1).client
  pub first : HasAll (file_at bytes) 0
  pub second : HasAll (file_at bytes) 1

-- They are, and so are others, which are their neighbour for client 1, and to which the two emitted memories are alike. That client has a
-- job in both, and only the first have another client's.
pub record AreWitnesses (bytes others : List ℕ) : Type 0 where
  pub accepted : IsWitnessOfTwo bytes
  pub other_accepted : IsAccepted others
  pub other_job : length (file_at others).jobs ≡ 1
  pub of_client : jobs_of 1 (file_at bytes) 0 ≡ true
  pub neighbours : AreNeighbourFiles 1 (file_at bytes) (file_at others)
  pub memories : AlikeTo 1 (file_at bytes) (file_at others) (memory_of (file_at bytes)) (memory_of (file_at others))

-- the bytes of the files
abbrev pub textured_bytes : List ℕ
textured_bytes = file_text textured_file

abbrev pub two_clients_bytes : List ℕ
two_clients_bytes = file_text two_clients

abbrev pub one_client_bytes : List ℕ
one_client_bytes = file_text one_client
