use Rattle.std.proofs.Common.{◌≡◌, take}
use Rattle.job_safety.specs.Accepted.{starts_by}
use Rattle.job_safety.proofs.accepting.starts_by.Given as goal

abbrev pub invariant-loop-i : goal.invariant-loop-i
invariant-loop-i l = l.starts.items ≡ starts_by (take l.i l.layouts) (take l.i l.lengths)
