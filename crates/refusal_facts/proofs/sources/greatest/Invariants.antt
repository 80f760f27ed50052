-- What was drawn, and what is drawn by the packets that are left.
use Rattle.std.proofs.Common.{◌≡◌, ◌<◌, ◌^◌, length}
use Rattle.std.specs.Prelude.{max}
use Rattle.bin_list.specs.{Packets.packets, States.greatest}
use Rattle.refusal_facts.proofs.sources.greatest.Given as goal

abbrev pub invariant-loop-rest : goal.invariant-loop-rest
invariant-loop-rest l = (max l.most (greatest (packets l.rest)) ≡ greatest (packets l.list)) × (l.most < 2 ^ 33)

abbrev pub decreases-loop-rest : goal.decreases-loop-rest
decreases-loop-rest l = length l.rest
