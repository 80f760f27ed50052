-- What was counted, and the states that are left.
use Rattle.std.proofs.Common.{◌≡◌, ◌≤◌, ◌+◌, length}
use Rattle.bin_list.specs.{Packets.packets, States.states_of}
use Rattle.refusal_facts.proofs.lists.count_states.Given as goal

abbrev pub invariant-loop-rest : goal.invariant-loop-rest
invariant-loop-rest l = (l.count + length (states_of (packets l.rest)) ≡ length (states_of (packets l.list)))
    × (l.count + length l.rest ≤ length l.list)

abbrev pub decreases-loop-rest : goal.decreases-loop-rest
decreases-loop-rest l = length l.rest
