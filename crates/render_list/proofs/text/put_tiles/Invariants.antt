-- The rows from this one on are left.
use Rattle.std.proofs.Common.{◌+◌, ◌-◌}
use Rattle.packets.specs.Packet.{slots_text}
use Rattle.packets.proofs.Underway.{IsUnderway}
use Rattle.render_list.specs.Text.{row_slots, all_tile_slots, span_slots}
use Rattle.render_list.proofs.text.put_tiles.Given as goal

abbrev pub invariant-loop-y : goal.invariant-loop-y
invariant-loop-y l =
    IsUnderway l.fn.out l.fn.at (slots_text (all_tile_slots l.fn.scene.frame l.fn.scene.setup.places l.fn.scene.tiles l.fn.scene.slot)) l.out l.here
    (slots_text (span_slots (row_slots l.fn.scene.frame l.fn.scene.setup.places l.fn.scene.tiles l.fn.scene.slot) l.y (l.y-end + 1 - l.y)))
