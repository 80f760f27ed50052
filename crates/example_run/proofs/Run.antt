-- The run, computed over a memory of which just the lists and the code are known.
use Rattle.std.proofs.Common.{◌≡◌, ℕ, true, List, [], ◌∷◌, map, refl, subst}
use Rattle.field_words.specs.Writes.{Part}
use Rattle.field_words.specs.Words.{u16_at, u32_at, rounded_up}
use Rattle.packets.specs.Config.{config_in}
use Rattle.packets.specs.Length.{bin_length, bin_taken, render_taken}
use Rattle.packets.specs.Packet.{packet_decoded}
use Rattle.packets.specs.StateWord.{attribute_count, is_extended}
use Rattle.texture_layouts.specs.Fetch.{fetch_offset_of, fetch_size_of, fetch_reach, fetch_place_of}
use Rattle.texture_layouts.specs.Fits.{has_two_strides, lacks_stride, has_child_image}
use Rattle.texture_layouts.specs.Format.{frame_tiling, frame_pixel}
use Rattle.texture_layouts.specs.Level.{level_side_of, level_tiling_of}
use Rattle.texture_layouts.specs.Place.{microtiles_across, microtile_number, microtile_place_of}
use Rattle.texture_layouts.specs.Setup.{size_below}
use Rattle.texture_layouts.specs.Surface.{microtile_width_of, microtile_height_of}
use Rattle.machine_plan.specs.Memory.{bytes_at}
use Rattle.list_machine.specs.Binner.{clear_plan, read_plan}
use Rattle.list_machine.specs.Blocks.{tiles_of, further_offset, has_room, is_full, next_place, put_here, put_plan}
use Rattle.list_machine.specs.Cover.{tiled_cover, part_place, parts_written}
use Rattle.list_machine.specs.Fetch.{index_plan, draws_nothing, record_place, data_plan, extended_plan, attribute_plan, attributes_plan, indexed_plan, fetch_plan}
use Rattle.list_machine.specs.Renderer.{tile_named, branch_plan, tile_plan as renderer_tile_plan, packet_plan as renderer_packet_plan, item_at as item_of_tile, program_plan, choice_plan, renderer_plan, may_pass, renderer_ready}
use Rattle.list_machine.specs.Start.{launch_plan, start_as, is_threaded as flags_threaded, start_plan}
use Rattle.list_machine.specs.Store.{tile_side, pixels_covered, bytes_chosen}
use Rattle.list_machine.specs.Surfaces.{cover_written, frame_written}
use Rattle.machine.specs.Step.{step, ready, turn, is_finished}
use Rattle.machine_plan.specs.Runs.{found_by}
use Rattle.machine.specs.declared.job.Start.{Start}
use Rattle.machine.specs.State.{State, start_of}
use Rattle.textured_job.specs.Job.{code_bytes, fragment_words, vertex_words}
use Rattle.headline.specs.Numbers.{alone, start}
use Rattle.example_run.specs.Shown.{TakesTexture, ReadsDirectly, Happens, to_texture, to_direct, whole_run}
use Rattle.example_run.proofs.Known.{Has, goes_on}
use Rattle.qpu_machine.proofs.Opened.{turns}
use Rattle.texture_layouts.proofs.Opened.{setup}
use Rattle.list_machine.proofs.Opened.{binner}

-- the emitted lists
abbrev pub bin_bytes : List ℕ
bin_bytes =
    112 ∷ 0 ∷ 32 ∷ 0 ∷ 0 ∷ 0 ∷ 240 ∷ 7 ∷ 0 ∷ 0 ∷ 16 ∷ 0 ∷ 0 ∷ 1 ∷ 1 ∷ 68 ∷ 6 ∷ 56 ∷ 18 ∷ 64 ∷ 49 ∷ 0 ∷ 0 ∷ 0
    ∷ 33 ∷ 4 ∷ 3 ∷ 0 ∷ 0 ∷ 0 ∷ 0 ∷ 0 ∷ 0 ∷ 0 ∷ 7 ∷ 4 ∷ []

abbrev pub record_bytes : List ℕ
record_bytes =
    0 ∷ 0 ∷ 0 ∷ 0 ∷ 0 ∷ 16 ∷ 8 ∷ 0 ∷ 112 ∷ 0 ∷ 0 ∷ 0
    ∷ 0 ∷ 0 ∷ 0 ∷ 0 ∷ 0 ∷ 32 ∷ 8 ∷ 0 ∷ 128 ∷ 0 ∷ 0 ∷ 0
    ∷ 0 ∷ 0 ∷ 0 ∷ 0 ∷ 0 ∷ 32 ∷ 8 ∷ 0 ∷ 128 ∷ 0 ∷ 0 ∷ 0
    ∷ 0 ∷ 64 ∷ 8 ∷ 0 ∷ 11 ∷ 12 ∷ 0 ∷ 0 ∷ 0 ∷ 0 ∷ 0 ∷ 0 ∷ []

abbrev pub stream_bytes : List ℕ
stream_bytes = 0 ∷ 64 ∷ 8 ∷ 0 ∷ 0 ∷ 8 ∷ 128 ∷ 0 ∷ 60 ∷ 0 ∷ 0 ∷ 0 ∷ 0 ∷ 68 ∷ 8 ∷ 0 ∷ []

abbrev pub render_bytes : List ℕ
render_bytes = 113 ∷ 0 ∷ 48 ∷ 8 ∷ 0 ∷ 16 ∷ 0 ∷ 16 ∷ 0 ∷ 132 ∷ 0 ∷ 115 ∷ 0 ∷ 0 ∷ 8 ∷ 17 ∷ 0 ∷ 32 ∷ 0 ∷ 0 ∷ 25 ∷ []

-- those and the code, at their places
abbrev pub part : ℕ → List ℕ → Part
part place bytes = record { place = place; bytes = bytes }

abbrev pub parts : List Part
parts =
    part 0 bin_bytes
    ∷ part 48 record_bytes
    ∷ part 112 stream_bytes
    ∷ part 144 render_bytes
    ∷ part 0x81000 (code_bytes fragment_words)
    ∷ part 0x82000 (code_bytes vertex_words)
    ∷ []

abbrev pub starts : List Start
starts = map start (alone ∷ [])

pub happens : (m : List ℕ) → Has parts m → Happens starts m
unfolding u16_at u32_at rounded_up config_in bin_length bin_taken render_taken packet_decoded attribute_count is_extended fetch_offset_of fetch_size_of fetch_reach fetch_place_of has_two_strides lacks_stride has_child_image frame_tiling frame_pixel level_side_of level_tiling_of microtiles_across microtile_number microtile_place_of size_below microtile_width_of microtile_height_of bytes_at clear_plan read_plan tiles_of further_offset has_room is_full next_place put_here put_plan tiled_cover part_place parts_written index_plan draws_nothing record_place data_plan extended_plan attribute_plan attributes_plan indexed_plan fetch_plan tile_named branch_plan renderer_tile_plan renderer_packet_plan item_of_tile program_plan choice_plan renderer_plan may_pass renderer_ready launch_plan start_as flags_threaded start_plan tile_side pixels_covered bytes_chosen cover_written frame_written ready turn is_finished code_bytes turns binner setup
happens m has =
    let s : State = start_of m starts in
    record {
      found = found_by step s whole_run;
      run = record { allowed = (goes_on parts s whole_run has refl).allowed; accesses = refl; last = refl };
      steps = refl;
      ends = subst (λ t. is_finished t ≡ true) (goes_on parts s whole_run has refl).reached_is refl;
      texture = subst TakesTexture (goes_on parts s to_texture has refl).reached_is (record { asked = refl; made = refl });
      direct = subst ReadsDirectly (goes_on parts s to_direct has refl).reached_is (record { asked = refl; made = refl });
    }
