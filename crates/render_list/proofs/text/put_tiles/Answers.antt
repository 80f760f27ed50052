use Rattle.std.proofs.Common.{◌+◌, ◌-◌, arith}
use Rattle.packets.specs.Packet.{slots_text}
use Rattle.packets.proofs.Underway.{begins, next_room, goes_on, ends}
use Rattle.render_list.specs.Text.{row_slots, all_tile_slots, span_slots}
use Rattle.render_list.proofs.Rows.{span_step, span_end}
use Rattle.render_list.proofs.text.put_tiles.Goals as goal

pub loop-y-init : goal.loop-y-init
loop-y-init c = begins c.args.out.now c.args.at (slots_text (all_tile_slots c.args.scene.now.frame c.args.scene.now.setup.places c.args.scene.now.tiles c.args.scene.now.slot)) c.requires.room

pub put_row-here-requires-clause-room : goal.put_row-here-requires-clause-room
put_row-here-requires-clause-room c =
    let frame = c.args.scene.now.frame in
    let rows = row_slots frame c.args.scene.now.setup.places c.args.scene.now.tiles c.args.scene.now.slot in
    let y = c.loop-y.y in
    next_room c.args.out.now c.args.at (slots_text (all_tile_slots frame c.args.scene.now.setup.places c.args.scene.now.tiles c.args.scene.now.slot)) c.loop-y.out c.loop-y.here
    (slots_text (span_slots rows y (frame.max_y + 1 - y))) (slots_text (rows y)) (slots_text (span_slots rows (y + 1) (frame.max_y + 1 - (y + 1))))
    c.loop-y.invariant (span_step rows y (frame.max_y + 1) (omega arith))

pub loop-y-preserved : goal.loop-y-preserved
loop-y-preserved c =
    let frame = c.args.scene.now.frame in
    let rows = row_slots frame c.args.scene.now.setup.places c.args.scene.now.tiles c.args.scene.now.slot in
    let y = c.loop-y.y in
    goes_on c.args.out.now c.args.at (slots_text (all_tile_slots frame c.args.scene.now.setup.places c.args.scene.now.tiles c.args.scene.now.slot)) c.loop-y.out c.loop-y.here
    (slots_text (span_slots rows y (frame.max_y + 1 - y))) (slots_text (rows y)) (slots_text (span_slots rows (y + 1) (frame.max_y + 1 - (y + 1))))
    c.put_row-here.new.out c.put_row-here.result c.loop-y.invariant (span_step rows y (frame.max_y + 1) (omega arith))
    c.put_row-here.ensures.text c.put_row-here.ensures.end_is

-- after the last row
pub returns-2 : goal.returns-2
returns-2 c =
    let frame = c.args.scene.now.frame in
    let rows = row_slots frame c.args.scene.now.setup.places c.args.scene.now.tiles c.args.scene.now.slot in
    let all = slots_text (all_tile_slots frame c.args.scene.now.setup.places c.args.scene.now.tiles c.args.scene.now.slot) in
    let y = c.loop-y.y in
    let later = slots_text (span_slots rows (y + 1) (frame.max_y + 1 - (y + 1))) in
    let state =
    goes_on c.args.out.now c.args.at all c.loop-y.out c.loop-y.here (slots_text (span_slots rows y (frame.max_y + 1 - y))) (slots_text (rows y)) later
    c.put_row-here.new.out c.put_row-here.result c.loop-y.invariant (span_step rows y (frame.max_y + 1) (omega arith))
    c.put_row-here.ensures.text c.put_row-here.ensures.end_is in
    let done = ends c.args.out.now c.args.at all c.put_row-here.new.out c.put_row-here.result later state (span_end rows (y + 1) (frame.max_y + 1) (omega arith)) in
    record { text = done.0; end_is = done.1 }
