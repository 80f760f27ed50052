use Rattle.std.proofs.Common.{◌<◌, ◌∷◌, [], length, length-append, ap, sym, subst, ◌∙◌, refl, arith}
use Rattle.list_machine.specs.{Blocks.most_tiles, Blocks.spot_of, Lists.AreNear, Lists.most_items}
use Rattle.list_machine.proofs.{Nearness.near_push, Spots.spots_put}
use Rattle.list_machine.proofs.job_lists.JobLists.push_item.Goals as goal

pub invariant_of-self : goal.invariant_of-self
invariant_of-self c =
    let before = c.self.inside.items.items in
    let more = c.push_reserved.ensures.items in
    let seen = ap (λ s. s.items) c.self.view_is in
    let near = c.self.invariant.1 in
    let low : c.args.item.tile < most_tiles = omega (arith, c.requires.tile) in
    let few : length before < most_items = omega (arith, c.requires.few, ap length seen) in (
      omega (arith, c.self.invariant.0, c.push_reserved.ensures.capacity),
      record {
        binner_end = near.binner_end;
        binner_place = near.binner_place;
        counted = near.counted;
        ended = near.ended;
        renderer_end = near.renderer_end;
        renderer_place = near.renderer_place;
        blocks = near.blocks;
        few = omega (arith, ap length more ∙ length-append before (c.args.item ∷ []), few);
        items = subst (AreNear 0) (sym more) (near_push before c.args.item near.items (omega (arith, c.requires.near, ap length seen)));
      },
      spots_put before c.push_reserved.new.self.items c.self.inside.spots.items _ c.args.item c.spot-spot.result low c.self.invariant.2 (c.spot-spot.ensures.value ∙ ap (spot_of c.args.item.tile) (sym seen)) more refl,
    )
