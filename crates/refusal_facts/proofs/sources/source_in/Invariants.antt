-- The record is still among those of the states that are left.
use Rattle.std.proofs.Common.{◌≡◌, ◌≤◌, ◌+◌, ◌*◌, ◌^◌, length}
use Rattle.bin_list.specs.{Packets.packets, States.states_of}
use Rattle.refusal_facts.specs.Sources.{source_among}
use Rattle.refusal_facts.proofs.sources.source_in.Given as goal

abbrev pub invariant-loop-rest : goal.invariant-loop-rest
invariant-loop-rest l =
    (source_among l.known l.place (states_of (packets l.rest)) l.at l.from ≡ source_among l.known l.place (states_of (packets l.list)) 0 0)
    × (l.at + 176 * length l.rest ≤ 176 * length l.list) × (l.from + 2 ^ 69 * length l.rest ≤ 2 ^ 69 * length l.list)

abbrev pub decreases-loop-rest : goal.decreases-loop-rest
decreases-loop-rest l = length l.rest
