-- Those so far.
use Rattle.std.proofs.Common.{◌≡◌, map, take}
use Rattle.vc4check_c.specs.Block.{address_in}
use Rattle.vc4check_c.proofs.block.addresses_in.Given as goal

abbrev pub invariant-loop-entry : goal.invariant-loop-entry
invariant-loop-entry l = l.words.items ≡ map address_in (take l.entry-index l.entries)
