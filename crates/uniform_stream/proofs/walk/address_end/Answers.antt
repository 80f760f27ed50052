use Rattle.std.proofs.Common.{sym, subst, ◌+◌, arith, ◌∙◌}
use Rattle.uniform_stream.specs.Walk.{IsAddressEnd}
use Rattle.uniform_stream.proofs.Ends.{end_here, end_same}
use Rattle.uniform_stream.proofs.walk.address_end.Goals.{then-writes_address, else-writes_address}
use Rattle.uniform_stream.proofs.walk.address_end.Goals as goal

pub invariant_of-writes_address : goal.invariant_of-writes_address
invariant_of-writes_address c = record { ends = c.requires; inside = omega (arith, c.loop-at-test.true, c.checked-at-end.ensures.inside) }

pub loop-at-preserved : goal.loop-at-preserved
loop-at-preserved c =
    elim c.if-writes_address.branch [
      | then-writes_address w ↦
          subst (IsAddressEnd c.args.code.now (c.loop-at.at + 1)) (sym w.last-is)
          (end_here c.args.code.now c.loop-at.at c.loop-at.last c.loop-at.invariant (sym c.writes_address.ensures ∙ w.if-writes_address.true))
      | else-writes_address w ↦
          subst (IsAddressEnd c.args.code.now (c.loop-at.at + 1)) (sym w.last-is)
          (end_same c.args.code.now c.loop-at.at c.loop-at.last c.loop-at.invariant (sym c.writes_address.ensures ∙ w.if-writes_address.false))
    ]
