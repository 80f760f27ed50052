use Rattle.std.proofs.Common.{◌+◌, ◌-◌, arith}
use Rattle.packets.specs.Packet.{slots_text}
use Rattle.packets.proofs.Underway.{begins, next_room, goes_on, ends}
use Rattle.render_list.specs.Text.{tile_slots, row_slots, span_slots}
use Rattle.render_list.proofs.{Places.tile_fits, Rows.span_step, Rows.span_end}
use Rattle.render_list.proofs.text.put_row.Goals as goal

pub loop-x-init : goal.loop-x-init
loop-x-init c = begins c.args.out.now c.args.at (slots_text (row_slots c.args.scene.now.frame c.args.scene.now.setup.places c.args.scene.now.tiles c.args.scene.now.slot c.args.y)) c.requires.room

pub put_tile-here-requires-clause-fits : goal.put_tile-here-requires-clause-fits
put_tile-here-requires-clause-fits c =
    tile_fits c.args.scene.now.frame c.args.scene.now.setup.places c.loop-x.x c.args.y (omega arith) c.requires.row c.requires.scene.setup

pub put_tile-here-requires-clause-room : goal.put_tile-here-requires-clause-room
put_tile-here-requires-clause-room c =
    let frame = c.args.scene.now.frame in
    let tiles = tile_slots frame c.args.scene.now.setup.places c.args.scene.now.tiles c.args.scene.now.slot c.args.y in
    let x = c.loop-x.x in
    next_room c.args.out.now c.args.at (slots_text (row_slots frame c.args.scene.now.setup.places c.args.scene.now.tiles c.args.scene.now.slot c.args.y)) c.loop-x.out c.loop-x.here
    (slots_text (span_slots tiles x (frame.max_x + 1 - x))) (slots_text (tiles x)) (slots_text (span_slots tiles (x + 1) (frame.max_x + 1 - (x + 1))))
    c.loop-x.invariant (span_step tiles x (frame.max_x + 1) (omega arith))

pub loop-x-preserved : goal.loop-x-preserved
loop-x-preserved c =
    let frame = c.args.scene.now.frame in
    let tiles = tile_slots frame c.args.scene.now.setup.places c.args.scene.now.tiles c.args.scene.now.slot c.args.y in
    let x = c.loop-x.x in
    goes_on c.args.out.now c.args.at (slots_text (row_slots frame c.args.scene.now.setup.places c.args.scene.now.tiles c.args.scene.now.slot c.args.y)) c.loop-x.out c.loop-x.here
    (slots_text (span_slots tiles x (frame.max_x + 1 - x))) (slots_text (tiles x)) (slots_text (span_slots tiles (x + 1) (frame.max_x + 1 - (x + 1))))
    c.put_tile-here.new.out c.put_tile-here.result c.loop-x.invariant (span_step tiles x (frame.max_x + 1) (omega arith))
    c.put_tile-here.ensures.text c.put_tile-here.ensures.end_is

-- after the last tile
pub returns-2 : goal.returns-2
returns-2 c =
    let frame = c.args.scene.now.frame in
    let tiles = tile_slots frame c.args.scene.now.setup.places c.args.scene.now.tiles c.args.scene.now.slot c.args.y in
    let row = slots_text (row_slots frame c.args.scene.now.setup.places c.args.scene.now.tiles c.args.scene.now.slot c.args.y) in
    let x = c.loop-x.x in
    let later = slots_text (span_slots tiles (x + 1) (frame.max_x + 1 - (x + 1))) in
    let state =
    goes_on c.args.out.now c.args.at row c.loop-x.out c.loop-x.here (slots_text (span_slots tiles x (frame.max_x + 1 - x))) (slots_text (tiles x)) later
    c.put_tile-here.new.out c.put_tile-here.result c.loop-x.invariant (span_step tiles x (frame.max_x + 1) (omega arith))
    c.put_tile-here.ensures.text c.put_tile-here.ensures.end_is in
    let done = ends c.args.out.now c.args.at row c.put_tile-here.new.out c.put_tile-here.result later state (span_end tiles (x + 1) (frame.max_x + 1) (omega arith)) in
    record { text = done.0; end_is = done.1 }
