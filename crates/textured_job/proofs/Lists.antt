-- No rule is broken by the binner list of a job; it has one shader state, and a grid of one tile.
use Rattle.std.proofs.{Common.◌≡◌, Common.None, Common.refl, Common.true, Common.[], Common.◌∷◌, Common.Some, lemmas.Grind.common_steps}
use Rattle.std.proofs.{lemmas.Bool.Decides.nat_tests, Common.arith}
use Rattle.job_check.specs.Faults.{table_stage, handles_stage, table_stage_within, bin_stage, layout_stage, surface_refused, surfaces_stage}
use Rattle.job_check.specs.Jobs.{job_of, has_bin, states_in, grid_of, layout_of, lists_begin, lists_room, render_room, has_tiles}
use Rattle.job_check.specs.Shaders.{table_of}
use Rattle.textured_job.specs.Job.{textured_file, two_clients, one_client, frame}
use Rattle.textured_job.proofs.Cases.{Case, Alone, First, Second, Single, file_in, number_in, handles_in}
use Rattle.field_words.specs.{Questions.with_answers, Questions.each, Questions.first_of, Words.u32_at, Words.rounded_up}
use Rattle.buffer_table.specs.Table.{all_within, memory_within, item_questions, is_off_page, shares, buffer_at}
use Rattle.buffer_table.specs.Handles.{handles_questions, handle_questions, data_of}
use Rattle.bin_list.specs.Rules.{questions_of, end_questions, packet_questions, cut_questions, kind_questions, flush_questions, start_questions, increment_questions, primitive_questions, index_questions, array_questions, state_questions, config_questions, index_buffer, indexes_end, index_size}
use Rattle.bin_list.specs.{Packets.packets_passed, Packets.packets, Packets.front_packet, Packets.behind, Seen.seen_before, States.draws_to}
use Rattle.packets.specs.StateWord.{record_room, record_size, is_extended, attribute_count}
use Rattle.packets.specs.Length.{bin_length, bin_taken}
use Rattle.tile_memory.specs.Slots.{slot_fits, alloc_offset}
use Rattle.render_list.specs.Surfaces.{surface_faults, frame_questions, surface_questions, whole_questions, shape_questions, size_questions}
use Rattle.render_list.specs.Frame.{is_present, tile_side, is_multisample, is_full, full_tile}
use Rattle.render_list.specs.Length.{render_length, tile_size, loads_size, writes_size, load_size}
use Rattle.texture_layouts.specs.{Format.frame_tiling, Format.frame_pixel, Surface.microtile_width_of, Surface.microtile_height_of}
use Rattle.relocation.specs.Layout.{records_start, uniforms_start, render_start, begins_after}
use Rattle.field_words.proofs.Questions.{answered_none}
use Rattle.render_list.proofs.Opened.{tests}

-- No rule is broken by the memory table of either file, nor by the handles of a job.

pub table_none : first_of (table_stage textured_file) ≡ None
unfolding table_stage_within textured_file with_answers all_within memory_within each item_questions is_off_page shares
table_none = refl

pub table_none_of_two : first_of (table_stage two_clients) ≡ None
unfolding table_stage_within two_clients with_answers all_within memory_within each item_questions is_off_page shares
table_none_of_two = refl

pub table_none_of_one : first_of (table_stage one_client) ≡ None
unfolding table_stage_within two_clients one_client with_answers all_within memory_within each item_questions is_off_page shares
table_none_of_one = refl

pub handles_none : (c : Case) → first_of (handles_stage (file_in c) (number_in c)) ≡ None
unfolding handles_stage textured_file two_clients one_client with_answers handles_questions job_of each handle_questions buffer_at
handles_none Alone = refl
handles_none First = refl
handles_none Second = refl
handles_none Single = refl

pub bin_there : (c : Case) → has_bin (file_in c) (number_in c) ≡ true
unfolding has_bin textured_file two_clients one_client job_of
bin_there Alone = refl
bin_there First = refl
bin_there Second = refl
bin_there Single = refl

pub bin_none : (c : Case) → first_of (bin_stage (file_in c) (number_in c)) ≡ None
unfolding bin_stage textured_file two_clients one_client has_bin with_answers job_of questions_of packets_passed end_questions seen_before packets packet_questions cut_questions kind_questions record_room u32_at front_packet behind bin_length flush_questions start_questions increment_questions primitive_questions index_questions array_questions state_questions config_questions rounded_up record_size bin_taken data_of index_buffer indexes_end slot_fits is_extended attribute_count buffer_at index_size alloc_offset
bin_none Alone = refl
bin_none First = refl
bin_none Second = refl
bin_none Single = refl

pub states_are : (c : Case) → states_in (file_in c) (number_in c) ≡ record { word = 1; max_index = 2 } ∷ []
unfolding states_in textured_file two_clients one_client packets job_of u32_at draws_to front_packet behind bin_taken bin_length
states_are Alone = refl
states_are First = refl
states_are Second = refl
states_are Single = refl

pub grid_is : (c : Case) → grid_of (file_in c) (number_in c) ≡ Some (1, 1)
unfolding grid_of textured_file two_clients one_client has_bin seen_before packets_passed job_of packets record_room u32_at rounded_up record_size front_packet behind is_extended attribute_count bin_taken bin_length
grid_is Alone = refl
grid_is First = refl
grid_is Second = refl
grid_is Single = refl

-- No rule is broken by the frame and the surface of a job, nor by its layout.

surfaces_asked : (c : Case) → first_of (surface_faults frame (Some (1, 1)) (table_of (file_in c)) (handles_in c)) ≡ None
unfolding surface_faults textured_file two_clients one_client frame_questions each surface_questions whole_questions is_present shape_questions size_questions tile_side data_of is_multisample is_full frame_tiling frame_pixel buffer_at full_tile rounded_up microtile_width_of microtile_height_of tests
surfaces_asked Alone = refl
surfaces_asked First = refl
surfaces_asked Second = refl
surfaces_asked Single = refl

-- the frame and the handles are those of the job
surfaces_reported : (c : Case) → surfaces_stage (file_in c) (number_in c)
    ≡ with_answers (surface_refused (number_in c)) (surface_faults frame (grid_of (file_in c) (number_in c)) (table_of (file_in c)) (handles_in c))
unfolding surfaces_stage job_of textured_file two_clients one_client
surfaces_reported Alone = refl
surfaces_reported First = refl
surfaces_reported Second = refl
surfaces_reported Single = refl

pub surfaces_none : (c : Case) → first_of (surfaces_stage (file_in c) (number_in c)) ≡ None
surfaces_none c =
    grind (arith, common_steps, nat_tests, surfaces_reported, answered_none, file_in, number_in, handles_in, grid_is, surfaces_asked)

pub layout_none : (c : Case) → first_of (layout_stage (file_in c) (number_in c)) ≡ None
unfolding layout_stage textured_file two_clients one_client layout_of lists_begin begins_after lists_room job_of render_room has_bin records_start uniforms_start render_start has_tiles render_length rounded_up tile_size loads_size is_present writes_size load_size is_full
layout_none Alone = refl
layout_none First = refl
layout_none Second = refl
layout_none Single = refl
