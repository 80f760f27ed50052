-- What an accepted call says of a memory that the caller prepares: every run of the jobs there is safe.
use Rattle.std.specs.Prelude.{◌≡◌, ℕ, List, None}
use Rattle.field_words.specs.{Questions.first_of, Words.IsBytes}
use Rattle.job_format.specs.{File.IsWellFormed, File.Fits, Model.FileModel, Reading.file_at}
use Rattle.job_check.specs.{Faults.place_stages, Whole.place_questions}
use Rattle.promises.specs.Prepared.{MayRunOver, IsPrepared}

-- The jobs may run over each memory that is prepared for the jobs of a file in which no rule is broken, anywhere in the greatest memory;
abbrev pub PreparedJobsMayRun : Type 0
PreparedJobsMayRun = (f : FileModel) → IsWellFormed f → Fits f → first_of (place_stages f) ≡ None → (m : List ℕ) → IsPrepared f m → MayRunOver f m

-- and of the file that any bytes hold in which no rule is broken.
abbrev pub PreparedBytesMayRun : Type 0
PreparedBytesMayRun =
    (bytes : List ℕ) → IsBytes bytes → first_of (place_questions bytes) ≡ None → (m : List ℕ) → IsPrepared (file_at bytes) m
    → MayRunOver (file_at bytes) m
