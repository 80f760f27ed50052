use Rattle.std.proofs.Common.{◌≡◌, ◌≤◌, ◌+◌, ◌*◌, length}
use Rattle.bin_list.specs.Packets.{packets}
use Rattle.ends_law.specs.Left.{AllWhole}
use Rattle.promises.specs.Steps.{bin_steps}
use Rattle.job_bound.specs.Bound.{most_packet}
use Rattle.job_bound.proofs.binner.bin_steps.Given as goal

-- the steps so far and those of the packets that are left are those of all, and each byte that was passed brought at most a packet's
pub record Going (l : goal.Live-loop-rest) : Type 0 where
  pub sum : l.steps + bin_steps l.longest (packets l.rest) ≡ bin_steps l.longest (packets l.list)
  pub few : l.steps + most_packet * length l.rest ≤ most_packet * length l.list
  pub whole : AllWhole (packets l.rest)

abbrev pub invariant-loop-rest : goal.invariant-loop-rest
invariant-loop-rest l = Going l

abbrev pub decreases-loop-rest : goal.decreases-loop-rest
decreases-loop-rest l = length l.rest
