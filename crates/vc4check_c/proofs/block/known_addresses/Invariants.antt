-- Those so far.
use Rattle.std.proofs.Common.{◌≡◌, map, take}
use Rattle.vc4check_c.specs.Block.{known_address}
use Rattle.vc4check_c.proofs.block.known_addresses.Given as goal

abbrev pub invariant-loop-word : goal.invariant-loop-word
invariant-loop-word l = l.entries.items ≡ map known_address (take l.word-index l.words)
