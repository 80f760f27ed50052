-- the lists of the jobs before this one are laid, and where what is reported of the shaders is true, no rule is broken by them, and their lists
-- are in the region
use Rattle.std.proofs.Common.{◌≡◌}
use Rattle.job_format.specs.Parts.{parts_view}
use Rattle.shader_records.specs.Inputs.{shaders_view}
use Rattle.job_check.specs.Shaders.{shaders_of}
use Rattle.job_check.proofs.Progress.{Laid, SoFar}
use Rattle.job_check.proofs.region.check_jobs.Given as goal

abbrev pub invariant-loop-number : goal.invariant-loop-number
invariant-loop-number l =
    Laid (parts_view l.file) l.number l.region.bytes.items l.region.layouts.items l.region.lengths.items l.place
    × (shaders_view l.shaders.items ≡ shaders_of (parts_view l.file) → SoFar (parts_view l.file) l.number l.region.bytes.items l.region.lengths.items)
