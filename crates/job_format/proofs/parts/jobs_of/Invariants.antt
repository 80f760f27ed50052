-- Those so far.
use Rattle.std.proofs.Common.{◌≡◌, map, take}
use Rattle.job_format.specs.{Model.job_view, Parts.job_parts_view}
use Rattle.job_format.proofs.parts.jobs_of.Given as goal

abbrev pub invariant-loop-job : goal.invariant-loop-job
invariant-loop-job l = map job_view l.copies.items ≡ map job_parts_view (take l.job-index l.jobs)
