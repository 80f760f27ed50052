-- The tiles from this one on are left.
use Rattle.std.proofs.Common.{◌+◌, ◌-◌}
use Rattle.packets.specs.Packet.{slots_text}
use Rattle.packets.proofs.Underway.{IsUnderway}
use Rattle.render_list.specs.Text.{tile_slots, row_slots, span_slots}
use Rattle.render_list.proofs.text.put_row.Given as goal

abbrev pub invariant-loop-x : goal.invariant-loop-x
invariant-loop-x l =
    IsUnderway l.fn.out l.fn.at (slots_text (row_slots l.fn.scene.frame l.fn.scene.setup.places l.fn.scene.tiles l.fn.scene.slot l.fn.y)) l.out l.here
    (slots_text (span_slots (tile_slots l.fn.scene.frame l.fn.scene.setup.places l.fn.scene.tiles l.fn.scene.slot l.fn.y) l.x (l.x-end + 1 - l.x)))
