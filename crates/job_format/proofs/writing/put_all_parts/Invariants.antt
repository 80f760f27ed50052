-- The text so far, and that the numbers in it fit.
use Rattle.std.proofs.Common.{◌≡◌, ◌++◌, map, take}
use Rattle.std.specs.List.{flat_map, AllByRecursion}
use Rattle.job_format.specs.{Model.job_view, Text.parts_text, File.JobPartsFit}
use Rattle.job_format.proofs.writing.put_all_parts.Given as goal

abbrev pub invariant-loop-job : goal.invariant-loop-job
invariant-loop-job l = (l.out.items ≡ l.fn.out.items ++ flat_map parts_text (map job_view (take l.job-index l.jobs))) × AllByRecursion JobPartsFit (map job_view (take l.job-index l.jobs))
