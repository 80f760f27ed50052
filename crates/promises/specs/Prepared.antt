-- A memory that is prepared for the jobs of a file: it has their lists and their code, and may hold anything else. So the jobs may run there.
use Rattle.std.specs.Prelude.{◌≡◌, None, ℕ, ◌-◌, List, ◌++◌, length, Some}
use Rattle.field_words.specs.{Questions.first_of, Writes.zeros}
use Rattle.phys_mem.specs.Window.{window_of}
use Rattle.buffer_table.specs.{declared.buffer.Buffer.Buffer, Table.buffer_at, Handles.code_of}
use Rattle.job_format.specs.{File.IsWellFormed, File.Fits, Model.FileModel}
use Rattle.job_check.specs.{Faults.place_stages, Shaders.table_of, Shaders.content_of, Jobs.job_of, Region.region_of}
use Rattle.promises.specs.Holdings.{OfEachJob, plain_of, file_rights, file_starts}
use Rattle.promises.specs.Sound.{AreSound}

-- no rule of a file is broken
pub record IsFaultless (f : FileModel) : Type 0 where
  pub well_formed : IsWellFormed f
  pub fits : Fits f
  pub none : first_of (place_stages f) ≡ None

-- a buffer's contents, and zeros behind them up to its end
abbrev pub content_filled : List ℕ → ℕ → List ℕ
content_filled content size = content ++ zeros (size - length content)

-- the buffer holds its contents, and zeros behind them
abbrev pub HasContent : List ℕ → Buffer → List ℕ → Type 0
HasContent m buffer content = window_of m buffer.place buffer.size ≡ content_filled content buffer.size

-- so does each Code buffer that a handle of job j names
abbrev pub HasCode : FileModel → List ℕ → ℕ → Type 0
HasCode f m j =
    (handle number : ℕ) → code_of (table_of f) (job_of f j).handles handle ≡ Some number
    → HasContent m (buffer_at f.buffers number) (content_of f number)

-- The memory is as long as the file says. From the lists' place on it has the relocated lists of all jobs, and each Code buffer that a
-- handle names holds its shader, with zeros behind. All its other bytes may be anything.
pub record IsPrepared (f : FileModel) (m : List ℕ) : Type 0 where
  pub long : length m ≡ f.mem_size
  pub lists : window_of m f.regions.lists_place (length (region_of f)) ≡ region_of f
  pub code : OfEachJob f (HasCode f m)

-- The jobs of a file may run over a memory: from the beginnings of their lists, each with its own rights, they are sound there. So every run
-- is safe, whatever others write meanwhile beside what jobs may only read.
abbrev pub MayRunOver : FileModel → List ℕ → Type 0
MayRunOver f m = AreSound (file_rights f) (plain_of f) m (file_starts f)
