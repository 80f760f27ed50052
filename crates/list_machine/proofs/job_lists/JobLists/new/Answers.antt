use Rattle.std.proofs.Common.{◌≡◌, length, [], ap, sym, subst, arith}
use Rattle.list_machine.specs.{Blocks.AreSpotsOf, Lists.AreNear}
use Rattle.list_machine.proofs.Spots.{spots_begin}
use Rattle.list_machine.proofs.job_lists.JobLists.new.Goals as goal

pub invariant_of-result : goal.invariant_of-result
invariant_of-result c =
    let none : c.in_ok-items.items.items ≡ [] = c.in_ok-items.ensures.items in
    let spots : AreSpotsOf [] c.in_ok-spots.spots.items = spots_begin c.in_ok-spots.spots.items (c.in_ok-spots.ensures.items_if_clones_equal (λ y same. same)) in (
      omega (arith, c.in_ok-items.ensures.capacity),
      record {
        binner_end = omega (arith, c.ranges.bin_place.fits, c.ranges.bin_len.fits);
        binner_place = omega arith;
        counted = omega arith;
        ended = omega arith;
        renderer_end = omega (arith, c.ranges.render_place.fits, c.ranges.render_len.fits);
        renderer_place = omega arith;
        blocks = omega arith;
        few = omega (arith, ap length none);
        items = subst (AreNear 0) (sym none) tt;
      },
      subst (λ items. AreSpotsOf items c.in_ok-spots.spots.items) (sym none) spots,
    )
