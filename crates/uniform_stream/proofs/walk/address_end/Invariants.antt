use Rattle.uniform_stream.specs.Walk.{IsAddressEnd}
use Rattle.uniform_stream.proofs.walk.address_end.Given as goal

abbrev pub invariant-loop-at : goal.invariant-loop-at
invariant-loop-at l = IsAddressEnd l.code l.at l.last
