-- What the job's handles name, as the facts of what is emitted speak of it.
use Rattle.std.specs.Prelude.{◌≡◌, ◌≤◌, ℕ, ◌+◌, List, length, Some}
use Rattle.field_words.specs.{Words.IsBytes, Pieces.IsPiece}
use Rattle.buffer_table.specs.{Table.TableModel, Table.buffer_at, Table.most_place, Handles.data_of, Handles.code_of}
use Rattle.qpu_isa.specs.Shader.{ShaderModel}
use Rattle.shader_records.specs.{Inputs.InputModel, Inputs.shader_in, Emission.emitted_records, Emission.emitted_uniforms}

-- an interval of memory is a data buffer that a handle names
pub record IsDataIn (table : TableModel) (handles : List ℕ) (place size : ℕ) : Type 0 where
  pub handle : ℕ
  pub number : ℕ
  pub named : data_of table handles handle ≡ Some number
  pub place_is : place ≡ (buffer_at table.buffers number).place
  pub size_is : size ≡ (buffer_at table.buffers number).size

-- a place is that of a Code buffer that a handle names, and the shader is what is known of its code
pub record IsCodeIn (input : InputModel) (place : ℕ) (shader : ShaderModel) : Type 0 where
  pub handle : ℕ
  pub number : ℕ
  pub named : code_of input.table input.handles handle ≡ Some number
  pub place_is : place ≡ (buffer_at input.table.buffers number).place
  pub shader_is : shader_in input.shaders number ≡ Some shader

-- The parts of the job file are bytes, and each buffer ends within the greatest memory.
pub record AreInMemory (input : InputModel) : Type 0 where
  pub records : IsBytes input.records
  pub uniforms : IsBytes input.uniforms
  pub buffers : (number : ℕ) → (buffer_at input.table.buffers number).place + (buffer_at input.table.buffers number).size ≤ most_place

-- A memory has the emitted records from a place on, and the emitted streams from another on.
pub record IsEmittedIn (input : InputModel) (records first : ℕ) (memory : List ℕ) : Type 0 where
  pub records_are : IsPiece memory records (length (emitted_records input first)) (emitted_records input first)
  pub uniforms_are : IsPiece memory first (length (emitted_uniforms input first)) (emitted_uniforms input first)
