-- The steps of the list units, by computing.
use Rattle.std.proofs.Common.{refl}
use Rattle.field_words.specs.Words.{u16_at, u32_at, rounded_up}
use Rattle.machine_plan.specs.Memory.{bytes_at, bytes_stored}
use Rattle.list_machine.specs.Blocks.{tiles_of, further_offset, block_place, has_room, is_full, next_place, link_place, put_here, put_plan}
use Rattle.list_machine.specs.Binner.{binner_ready, binner_plan, chosen_tile, tile_plan, work_plan, work_may}
use Rattle.machine.specs.Step.{is_enabled, turn}
use Rattle.packets.specs.{Length.render_taken, Packet.packet_decoded}
use Rattle.texture_layouts.specs.Surface.{microtile_width_of, microtile_height_of}
use Rattle.texture_layouts.specs.Place.{microtiles_across, raster_place}
use Rattle.texture_layouts.specs.Format.{frame_tiling, frame_pixel}
use Rattle.list_machine.specs.Surfaces.{cover_written, frame_written}
use Rattle.list_machine.specs.Store.{tile_side, pixels_covered, chosen_byte, bytes_chosen}
use Rattle.list_machine.specs.Cover.{raster_cover, part_place, parts_written}
use Rattle.list_machine.specs.Renderer.{packet_plan, renderer_plan, may_pass, renderer_ready}
use Rattle.apart_needs.specs.Worked.{BinnerPuts, RendererStores}

pub binner_steps : BinnerPuts
unfolding rounded_up bytes_stored tiles_of further_offset block_place has_room is_full next_place link_place put_here put_plan binner_ready binner_plan chosen_tile tile_plan work_plan work_may is_enabled turn
binner_steps = record { may = refl; accesses = refl; last = refl }

pub renderer_steps : RendererStores
unfolding u16_at u32_at render_taken packet_decoded rounded_up microtile_width_of microtile_height_of microtiles_across raster_place frame_tiling frame_pixel bytes_at bytes_stored tile_side pixels_covered chosen_byte bytes_chosen raster_cover part_place parts_written cover_written frame_written packet_plan renderer_plan may_pass renderer_ready is_enabled turn
renderer_steps = record { may = refl; accesses = refl; last = refl }
