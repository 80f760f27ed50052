-- Microtiles of four pixels a side or more are few.
use Rattle.std.proofs.Common.{arith}
use Rattle.texture_layouts.proofs.Styles.{short_pixel}
use Rattle.list_machine.proofs.Covering.{begins, few_parts}
use Rattle.list_machine.proofs.cover.tiled_cover.Goals as goal

pub returns-clause-small : goal.returns-clause-small
returns-clause-small c = record {
  wide = omega arith;
  pixel = short_pixel c.args.style.now.cpp c.requires;
  left = begins c.args.x c.side-side.result c.microtile_width-width.result (omega arith) c.side-side.ensures.limit;
  top = begins c.args.y c.side-side.result c.microtile_height-height.result (omega arith) c.side-side.ensures.limit;
  across = omega (arith, c.units_of.ensures.limit);
  down = omega (arith, c.units_of-2.ensures.limit);
  few = few_parts c.units_of.result c.units_of-2.result c.units_of.ensures.limit c.units_of-2.ensures.limit;
  size = omega arith;
}
