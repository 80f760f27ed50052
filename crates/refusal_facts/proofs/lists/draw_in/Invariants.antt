-- The packet is still among those that are left.
use Rattle.std.proofs.Common.{◌≡◌, ◌≤◌, ◌+◌, length}
use Rattle.bin_list.specs.Packets.{packets}
use Rattle.refusal_facts.specs.Lists.{draw_among}
use Rattle.refusal_facts.proofs.lists.draw_in.Given as goal

abbrev pub invariant-loop-rest : goal.invariant-loop-rest
invariant-loop-rest l = (draw_among l.byte (packets l.rest) l.at l.handle ≡ draw_among l.byte (packets l.list) 0 0)
    × (l.at + length l.rest ≤ length l.list)

abbrev pub decreases-loop-rest : goal.decreases-loop-rest
decreases-loop-rest l = length l.rest
