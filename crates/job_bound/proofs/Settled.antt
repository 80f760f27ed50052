-- What is known of each job of a faultless file.
use Rattle.std.proofs.Common.{ℕ, ◌<◌, length}
use Rattle.buffer_table.specs.Handles.{AreNumbersOf}
use Rattle.job_format.specs.Model.{FileModel}
use Rattle.job_check.specs.{Jobs.job_of, Shaders.table_of}
use Rattle.accepted_law.specs.Settled.{Settled}
use Rattle.promises.specs.Prepared.{IsFaultless}
use Rattle.accepted_law.proofs.Settling.{files_settle_law}

pub settled : (f : FileModel) (j : ℕ) → IsFaultless f → j < length f.jobs → Settled f j
settled f j faultless inside = files_settle_law f faultless.well_formed faultless.fits faultless.none j inside

-- its handles are numbers of buffers
pub numbers : (f : FileModel) (j : ℕ) → IsFaultless f → j < length f.jobs → AreNumbersOf (table_of f) (job_of f j).handles
numbers f j faultless inside = (settled f j faultless inside).numbers
