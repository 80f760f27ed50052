-- The renderer's steps, by computing, and the byte that differs.
use Rattle.std.proofs.Common.{◌≤◌, inl, inr, ◌==◌, ℕ, ◌+◌, [], ◌∷◌, Some, refl, arith, ap, rules}
use Rattle.std.specs.Prelude.{⊤}
use Rattle.std.proofs.lemmas.Bool.{false≢true}
use Rattle.field_words.specs.Words.{u16_at, u32_at, rounded_up}
use Rattle.packets.specs.{Length.render_taken, Packet.packet_decoded, Packet.packet_text, declared.config.Config.Config}
use Rattle.packets.specs.declared.packet.Packet.TheVariants.{StoreTileColor, TileRenderingMode}
use Rattle.texture_layouts.specs.{Surface.microtile_width_of, Surface.microtile_height_of, declared.surface.Tiling.TheVariants.Raster}
use Rattle.texture_layouts.specs.Place.{microtiles_across, microtile_number, microtile_place_of, raster_place}
use Rattle.texture_layouts.specs.Format.{general_tiling, general_pixel, frame_tiling, frame_pixel}
use Rattle.machine_plan.specs.{Memory.bytes_at, Memory.bytes_stored, Regions.Inside, Regions.rights_of, Runs.state_reached}
use Rattle.list_machine.specs.Surfaces.{whole_written}
use Rattle.list_machine.specs.{declared.state.Frame.Frame, Blocks.tiles_of, Store.tile_side, Store.pixels_covered, Store.bytes_chosen}
use Rattle.list_machine.specs.Cover.{raster_cover, tiled_cover, part_place, parts_written, parts_read}
use Rattle.list_machine.specs.Renderer.{tile_plan, packet_plan, renderer_plan, may_pass, renderer_ready}
use Rattle.machine.specs.Step.{step, is_enabled, ready, turn, job_of}
use Rattle.machine_law.specs.{Apart.BeginsSoundly, Begins.JobBegins}
use Rattle.promises.specs.{Apart.EndAlike, Apart.regions_of, Rights.IsFixed}
use Rattle.apart_needs.specs.Sharing.{client, shared_memory, shared_rights, shared_beginning, sharing, stores, stored_accesses, SharingIsSeen}
use Rattle.list_machine.proofs.Opened.{parts}

-- no tiles, and the frame of four pixels
no_tiles : Config
no_tiles = record { address = 0; size = 0; states = 0; tiles_x = 0; tiles_y = 0 }

four_pixels : Frame
four_pixels = record { address = 0; width = 4; height = 1; bits = 4 }

-- no job may write what lies behind the 16 bytes
list_outside : (p j : ℕ) → 16 ≤ p → Inside (rights_of shared_rights j).writable p 1 → ⊥
list_outside p j from never = search (rules, arith)

list_fixed : IsFixed shared_rights 16 12
list_fixed i less j inside = list_outside (16 + i) j (omega arith) inside

none_fixed : (place : ℕ) → IsFixed shared_rights place 0
none_fixed place i less j inside = omega (arith, less)

client_begins : JobBegins shared_rights (λ j. []) shared_memory 0 (record { bin_place = 0; bin_len = 0; render_place = 0; render_len = 0 })
unfolding tiles_of no_tiles bytes_at
client_begins = record {
  config = no_tiles;
  frame = four_pixels;
  allocates = record {
    states = record { region = inl (record { from = omega arith; upto = omega arith }); writable = inl (record { from = omega arith; upto = omega arith }) };
    all = record { region = inl (record { from = omega arith; upto = omega arith }); writable = inl (record { from = omega arith; upto = omega arith }) };
    first = omega arith;
  };
  packets = [];
  bin_walks = tt;
  bin_text = record { stands = refl; reads = inl (record { from = omega arith; upto = omega arith }); fixed = none_fixed 0 };
  bin_len = refl;
  slots = [];
  render_walks = tt;
  render_fits = tt;
  render_sets = tt;
  render_text = record { stands = refl; reads = inl (record { from = omega arith; upto = omega arith }); fixed = none_fixed 0 };
  render_len = refl;
}

other_begins : JobBegins shared_rights (λ j. []) shared_memory 1 (record { bin_place = 16; bin_len = 0; render_place = 16; render_len = 12 })
unfolding tiles_of no_tiles four_pixels bytes_at packet_text frame_tiling frame_pixel rounded_up microtile_width_of
other_begins = record {
  config = no_tiles;
  frame = four_pixels;
  allocates = record {
    states = record { region = inl (record { from = omega arith; upto = omega arith }); writable = inl (record { from = omega arith; upto = omega arith }) };
    all = record { region = inl (record { from = omega arith; upto = omega arith }); writable = inl (record { from = omega arith; upto = omega arith }) };
    first = omega arith;
  };
  packets = [];
  bin_walks = tt;
  bin_text = record { stands = refl; reads = inl (record { from = omega arith; upto = omega arith }); fixed = none_fixed 16 };
  bin_len = refl;
  slots = Some (TileRenderingMode 0 4 1 4) ∷ Some StoreTileColor ∷ [];
  render_walks = (
    tt,
    (
      (
        refl,
        record {
          style_is = record { tiling = Raster; cpp = 4 };
          styled = refl;
          pixel = inr refl;
          writes = record { region = inl (record { from = omega arith; upto = omega arith }); writable = inl (record { from = omega arith; upto = omega arith }) };
        },
      ),
      tt,
    ),
  );
  render_fits = ((omega arith, omega arith, omega arith, omega arith), (tt, tt));
  render_sets = (refl, (tt, tt));
  render_text = record { stands = refl; reads = inr (inl (record { from = omega arith; upto = omega arith })); fixed = list_fixed };
  render_len = refl;
}

begins_soundly : BeginsSoundly shared_beginning
begins_soundly = record { plain = λ j place size named. absurd named; jobs = (client_begins, (other_begins, tt)) }

-- what the steps of the stores compute
unfoldable opened : ⊤
unfolding u16_at u32_at rounded_up render_taken packet_decoded microtile_width_of microtile_height_of microtiles_across microtile_number microtile_place_of raster_place general_tiling general_pixel frame_tiling frame_pixel bytes_at bytes_stored tile_side pixels_covered bytes_chosen raster_cover tiled_cover part_place parts_written parts_read whole_written tile_plan packet_plan renderer_plan may_pass renderer_ready is_enabled ready turn job_of parts
opened = tt

-- the first byte was 9, and is 1 at the end
first_differs : EndAlike client (regions_of client 0 shared_rights) [] stored_accesses sharing (state_reached step sharing stores) → ⊥
unfolding opened
first_differs alike = false≢true (ap (λ byte. byte == 1) (alike.memory.same 0 (inl (record { from = omega arith; upto = omega arith }))))

pub sharing_seen : SharingIsSeen
unfolding opened
sharing_seen = search (rules, arith, begins_soundly, first_differs)
