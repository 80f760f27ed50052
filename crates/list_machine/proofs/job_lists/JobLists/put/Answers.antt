-- By whether the tile's block is full.
use Rattle.std.proofs.Common.{◌≡◌, ◌∙◌, sym, ap, arith}
use Rattle.list_machine.specs.Blocks.{spot_of, block_place}
use Rattle.list_machine.proofs.Putting.{full_shows, next_shows}
use Rattle.list_machine.proofs.job_lists.JobLists.put.Goals as goal

pub block_place-place-requires : goal.block_place-place-requires
block_place-place-requires c = omega (arith, c.blocks-then-is_full.ensures.value, c.requires.blocks)

pub take_block-requires : goal.take_block-requires
take_block-requires c = c.requires.blocks

pub returns-then-is_full-clause-shows : goal.returns-then-is_full-clause-shows
returns-then-is_full-clause-shows c =
    let spot : c.spot-spot.result ≡ spot_of c.args.tile c.args.self.now.items = c.spot-spot.ensures.value in
    let place : c.block_place-place.result ≡ block_place c.args.config.now c.args.self.now.blocks = c.block_place-place.ensures.value ∙ ap (block_place c.args.config.now) c.blocks-then-is_full.ensures.value in
    full_shows c.args.who c.args.self.now c.take_block.new.self c.args.config.now c.args.work.now c.args.tile c.block_place-place.result c.spot-spot.result _ c.item_of.result c.args.memory.now c.write_zeros.new.memory c.args.accesses.now.items c.write_zeros.new.accesses.items _ _ _
    spot (sym c.is_full.ensures ∙ c.if-is_full.true) place c.item_of.ensures c.write_zeros.ensures.items c.write_zeros.ensures.memory c.take_block.ensures c.put_here.ensures.shows

pub returns-else-is_full-clause-shows : goal.returns-else-is_full-clause-shows
returns-else-is_full-clause-shows c =
    let spot : c.spot-spot.result ≡ spot_of c.args.tile c.args.self.now.items = c.spot-spot.ensures.value in
    next_shows c.args.who c.args.self.now c.args.config.now c.args.work.now c.args.tile c.next_place-place.result c.spot-spot.result _ c.item_of-else-is_full.result c.args.memory.now c.args.accesses.now.items _ _ _
    spot (sym c.is_full.ensures ∙ c.if-is_full.false) c.next_place-place.ensures.value c.item_of-else-is_full.ensures c.put_here-else-is_full.ensures.shows
