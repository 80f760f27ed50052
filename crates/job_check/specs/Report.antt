-- What the stages tell of the lists of a job.
use Rattle.std.specs.Prelude.{◌≡◌, ℕ, length, Some}
use Rattle.bin_list.specs.{Info.MeetsState, Rules.given_of, declared.info.BinInfo.BinInfo}
use Rattle.shader_records.specs.declared.info.RecordInfo.{RecordInfo}
use Rattle.job_format.specs.Model.{FileModel}
use Rattle.job_check.specs.{Shaders.table_of, Jobs.job_of, Jobs.grid_of, Jobs.states_in, Jobs.bin_list_of, Jobs.records_of, Jobs.streams_of}

-- what is reported of the binner list of job j: the grid, the states, and the length of the list that the hardware is given
pub record IsBinOf (f : FileModel) (j : ℕ) (info : BinInfo) : Type 0 where
  pub grid : Some (info.tiles_x, info.tiles_y) ≡ grid_of f j
  pub states : info.states.items ≡ states_in f j
  pub length_is : info.length ≡ length (bin_list_of f j)

-- what is reported of its records and uniforms: the emitted lengths
pub record AreRecordsOf (f : FileModel) (j : ℕ) (info : RecordInfo) : Type 0 where
  pub records : info.records ≡ length (records_of f j)
  pub uniforms : info.uniforms ≡ length (streams_of f j)

-- a shader state stands in the binner list of job j, and no rule up to it is broken
abbrev pub HasStateFirst : FileModel → ℕ → Type 0
HasStateFirst f j = MeetsState (given_of (job_of f j).bin (job_of f j).declared (table_of f) (job_of f j).handles) (job_of f j).bin
