-- The lines of the jobs so far are appended.
use Rattle.std.proofs.Common.{◌≡◌, ◌++◌}
use Rattle.dumper.specs.Text.{jobs_text}
use Rattle.dumper.proofs.text.push_jobs.Given as goal

abbrev pub invariant-loop-job : goal.invariant-loop-job
invariant-loop-job l = l.out.items ≡ l.fn.out.items ++ jobs_text l.layouts l.lengths l.job
