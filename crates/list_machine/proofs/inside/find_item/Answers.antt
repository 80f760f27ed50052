-- Items that are none of the tile's are passed by.
use Rattle.std.proofs.Common.{refl}
use Rattle.list_machine.specs.Renderer.{item_at}
use Rattle.list_machine.proofs.Items.{passed_by, found_here, none_left}
use Rattle.list_machine.proofs.inside.find_item.Goals as goal

pub loop-i-init : goal.loop-i-init
unfolding item_at
loop-i-init c = refl

pub loop-i-preserved : goal.loop-i-preserved
loop-i-preserved c = passed_by c.args.sub.tile c.loop-i.i c.args.items.now _ (item_at c.args.sub c.args.items.now) c.loop-i-test.true c.if-item-sub.false c.loop-i.invariant

pub returns-then-item-sub-clause-value : goal.returns-then-item-sub-clause-value
returns-then-item-sub-clause-value c = found_here c.args.sub.tile c.loop-i.i c.args.items.now _ (item_at c.args.sub c.args.items.now) c.loop-i-test.true c.if-item-sub.true c.loop-i.invariant

pub returns-clause-value : goal.returns-clause-value
returns-clause-value c = none_left c.args.sub.tile c.loop-i.i c.args.items.now (item_at c.args.sub c.args.items.now) c.loop-i-test.false c.loop-i.invariant
