-- The text so far, and that the numbers in it fit.
use Rattle.std.proofs.Common.{◌≡◌, ◌++◌, map, take}
use Rattle.std.specs.List.{flat_map, AllByRecursion}
use Rattle.job_format.specs.{Model.job_view, Text.job_text, File.JobEntryFits}
use Rattle.job_format.proofs.writing.put_jobs.Given as goal

abbrev pub invariant-loop-job : goal.invariant-loop-job
invariant-loop-job l = (l.out.items ≡ l.fn.out.items ++ flat_map job_text (map job_view (take l.job-index l.jobs))) × AllByRecursion JobEntryFits (map job_view (take l.job-index l.jobs))
