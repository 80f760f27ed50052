-- What is left gets shorter with each job file.
use Rattle.std.proofs.Common.{◌-◌, length}
use Rattle.vectors.proofs.jobs.lines.Given as goal

abbrev pub decreases-loop-end : goal.decreases-loop-end
decreases-loop-end l = length l.bytes - l.at
