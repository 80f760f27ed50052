-- From above: a job may reach nothing but what it holds, and no job may write the lists and the code of any.
use Rattle.std.specs.Prelude.{◌≡◌, ◌⊎◌, ℕ, None}
use Rattle.field_words.specs.{Sizes.slot_size, Questions.first_of}
use Rattle.shader_records.specs.Named.{IsDataIn}
use Rattle.job_format.specs.{File.IsWellFormed, File.Fits, Model.FileModel}
use Rattle.job_check.specs.{Shaders.table_of, Jobs.job_of, Jobs.slot_of, Faults.place_stages}
use Rattle.promises.specs.Holdings.{IsNamedCode, OfEachJob, lists_of, file_rights, rights_at}
use Rattle.promises.specs.Rights.{IsOneOf, IsFixed}

-- the tile slot of job j
pub record IsSlot (f : FileModel) (j place size : ℕ) : Type 0 where
  pub place_is : place ≡ slot_of f j
  pub size_is : size ≡ slot_size

-- What a job may write is its slot, or a data buffer that a handle of it names. What it may reach is that, one of its four emitted
-- lists, or such a Code buffer.
abbrev pub IsToWrite : FileModel → ℕ → ℕ → ℕ → Type 0
IsToWrite f j place size = IsSlot f j place size ⊎ IsDataIn (table_of f) (job_of f j).handles place size

abbrev pub IsToReach : FileModel → ℕ → ℕ → ℕ → Type 0
IsToReach f j place size = IsToWrite f j place size ⊎ (IsOneOf (lists_of f j) place size ⊎ IsNamedCode f j place size)

-- The rights of job j are no more. So are those of each job.
pub record AreHeld (f : FileModel) (j : ℕ) : Type 0 where
  pub region : (place size : ℕ) → IsOneOf (rights_at f j).region place size → IsToReach f j place size
  pub writable : (place size : ℕ) → IsOneOf (rights_at f j).writable place size → IsToWrite f j place size

abbrev pub RightsAreHeld : Type 0
RightsAreHeld = (f : FileModel) → OfEachJob f (AreHeld f)

-- What any job may write shares no byte with the four emitted lists of job j, nor with a Code buffer that a handle of it names.
pub record AreFixed (f : FileModel) (j : ℕ) : Type 0 where
  pub lists : (place size : ℕ) → IsOneOf (lists_of f j) place size → IsFixed (file_rights f) place size
  pub code : (place size : ℕ) → IsNamedCode f j place size → IsFixed (file_rights f) place size

-- So it is for each job where no rule is broken.
abbrev pub ListsAndCodeAreFixed : Type 0
ListsAndCodeAreFixed = (f : FileModel) → IsWellFormed f → Fits f → first_of (place_stages f) ≡ None → OfEachJob f (AreFixed f)
