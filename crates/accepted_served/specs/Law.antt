-- The law: the jobs of an accepted file whose shaders are served finish, or wait for room in their tile slots.
use Rattle.std.specs.Prelude.{◌≡◌, None}
use Rattle.field_words.specs.Questions.{first_of}
use Rattle.job_format.specs.{File.IsWellFormed, File.Fits, Model.FileModel}
use Rattle.job_check.specs.Faults.{place_stages}
use Rattle.promises.specs.Finished.{FileFinishes}

-- The jobs of each file finish in which no rule is broken.
abbrev pub FilesFinish : Type 0
FilesFinish = (f : FileModel) → IsWellFormed f → Fits f → first_of (place_stages f) ≡ None → FileFinishes f
