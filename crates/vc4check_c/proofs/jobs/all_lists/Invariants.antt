-- What is reported of the jobs so far, and nothing of the others.
use Rattle.std.proofs.Common.{◌≡◌}
use Rattle.vc4check_c.specs.Jobs.{all_lists}
use Rattle.vc4check_c.proofs.jobs.all_lists.Given as goal

abbrev pub invariant-loop-job : goal.invariant-loop-job
invariant-loop-job l = l.all ≡ all_lists l.layouts l.lengths l.job
