use Rattle.std.proofs.Common.{◌≡◌, ◌≤◌, length}
use Rattle.std.specs.Prelude.{max}
use Rattle.bin_list.specs.Packets.{packets}
use Rattle.list_machine.specs.Lists.{most_items}
use Rattle.ends_law.specs.Left.{AllWhole}
use Rattle.promises.specs.Steps.{room_of}
use Rattle.job_bound.proofs.binner.room.Given as goal

-- the most so far and that of the packets that are left is that of all
pub record Going (l : goal.Live-loop-rest) : Type 0 where
  pub most : max l.most (room_of (packets l.rest)) ≡ room_of (packets l.list)
  pub few : l.most ≤ most_items
  pub whole : AllWhole (packets l.rest)

abbrev pub invariant-loop-rest : goal.invariant-loop-rest
invariant-loop-rest l = Going l

abbrev pub decreases-loop-rest : goal.decreases-loop-rest
decreases-loop-rest l = length l.rest
