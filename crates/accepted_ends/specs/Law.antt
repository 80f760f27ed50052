-- The law: each run of the jobs of an accepted file without loops has no more steps than the file says.
use Rattle.std.specs.Prelude.{◌≡◌, None}
use Rattle.field_words.specs.Questions.{first_of}
use Rattle.job_format.specs.{File.IsWellFormed, File.Fits, Model.FileModel}
use Rattle.job_check.specs.Faults.{place_stages}
use Rattle.promises.specs.Bounded.{FileEnds}

-- The jobs of each file end in which no rule is broken.
abbrev pub FilesEndBy : Type 0
FilesEndBy = (f : FileModel) → IsWellFormed f → Fits f → first_of (place_stages f) ≡ None → FileEnds f
