-- What the headline says of the two files, computed: the lengths of the emitted lists first.
use Rattle.std.proofs.Common.{◌≡◌, ℕ, zero, suc, Option, List, [], ◌∷◌, ◌++◌, length, map, Some, refl, ap, ◌∙◌}
use Rattle.std.specs.List.{flat_map}
use Rattle.buffer_table.specs.{Table.buffer_at, Handles.data_of, Handles.code_of}
use Rattle.field_words.specs.{Words.rounded_up, Words.u32_at, WordBytes.word_bytes}
use Rattle.job_format.specs.Model.{FileModel}
use Rattle.shader_records.specs.Emission.{records_text, record_text, uniforms_text, streams_text, stream_text, emitted_records, emitted_uniforms}
use Rattle.shader_records.specs.{Inputs.InputModel, Sources.shader_used, Sources.code_number, Sources.record_source, Emitted.streams_place}
use Rattle.relocation.specs.declared.layout.Lengths.{Lengths}
use Rattle.relocation.specs.Layout.{records_start, uniforms_start, render_start, begins_after}
use Rattle.bin_list.specs.{Emitted.index_text, Emitted.state_text, Emitted.config_text, Emitted.packet_text, Seen.seen_before}
use Rattle.bin_list.specs.Packets.{packets_passed, packets, front_packet, behind}
use Rattle.packets.specs.{Length.bin_length, Length.bin_taken, Packet.packet_text as render_packet}
use Rattle.packets.specs.StateWord.{record_room, record_size, is_extended, attribute_count}
use Rattle.tile_memory.specs.Slots.{alloc_offset}
use Rattle.render_list.specs.Frame.{is_present, is_full, is_multisample, tile_side, is_first_tile, is_last_tile}
use Rattle.render_list.specs.Text.{head_packet, clear_slots, front_slots, list_place, color_store, more_after_multisample_zs, more_after_multisample_color, some_before_zs, some_before_color, load_slots, list_slots, write_slots, tile_slots, span_slots, render_slots, render_text}
use Rattle.render_list.specs.Length.{render_length, tile_size, loads_size, writes_size, load_size}
use Rattle.render_list.specs.Surfaces.{place_in}
use Rattle.job_check.specs.Jobs.{job_of, slot_of, has_bin, has_tiles, grid_of, lists_begin, lists_room, layout_of, places_in, render_room, bin_list_of, input_for, records_of, streams_of, render_list_of}
use Rattle.job_check.specs.Emit.{lengths_of}
use Rattle.machine_plan.specs.Regions.{Interval, Rights}
use Rattle.promises.specs.Holdings.{named_buffers, plain_of, codes_of, lists_of, lists_in, slot_in, file_rights, fixed_below, fixed_of, start_by}
use Rattle.promises.specs.Holdings.{file_starts}
use Rattle.textured_job.specs.Job.{frame, textured_file, two_clients, one_client}
use Rattle.textured_job.proofs.Cases.{Case, Alone, First, Second, Single, file_in, number_in, input_in}
use Rattle.textured_job.proofs.{Lists.grid_is, Whole.input_is}
use Rattle.headline.specs.Numbers.{Numbers, intervals, rights, start, spans_fixed, numbers_of, alone, first, second}

-- The lengths of a job's emitted lists are those of what its sources, its input and its grid come to.
abbrev lengths_by : FileModel → ℕ → InputModel → Option (ℕ × ℕ) → Lengths
lengths_by f j input grid = record {
  bin = length (bin_list_of f j);
  records = length (emitted_records input (streams_place (layout_of f j)));
  uniforms = length (emitted_uniforms input (streams_place (layout_of f j)));
  render = length (render_text frame (places_in f j) grid (slot_of f j));
}

lengths_reported : (c : Case) → lengths_of (file_in c) (number_in c) ≡ lengths_by (file_in c) (number_in c) (input_for (file_in c) (number_in c)) (grid_of (file_in c) (number_in c))
unfolding lengths_of records_of streams_of render_list_of has_bin textured_file two_clients one_client job_of
lengths_reported Alone = refl
lengths_reported First = refl
lengths_reported Second = refl
lengths_reported Single = refl

abbrev lengths : Lengths
lengths = record { bin = 36; records = 48; uniforms = 16; render = 21 }

lengths_computed : (c : Case) → lengths_by (file_in c) (number_in c) (input_in c) (Some (1, 1)) ≡ lengths
unfolding bin_list_of has_bin textured_file two_clients one_client job_of packets_passed packets front_packet behind bin_taken bin_length packet_text index_text state_text config_text u32_at seen_before alloc_offset rounded_up record_room record_size is_extended attribute_count records_text record_text word_bytes uniforms_text streams_text stream_text shader_used code_number code_of buffer_at record_source places_in place_in data_of is_present is_full is_multisample tile_side is_first_tile is_last_tile head_packet clear_slots front_slots list_place color_store more_after_multisample_zs more_after_multisample_color some_before_zs some_before_color load_slots list_slots write_slots tile_slots span_slots render_slots render_text render_packet slot_of
lengths_computed Alone = refl
lengths_computed First = refl
lengths_computed Second = refl
lengths_computed Single = refl

lengths_are : (c : Case) → lengths_of (file_in c) (number_in c) ≡ lengths
lengths_are c =
    lengths_reported c
    ∙ ap (λ input. lengths_by (file_in c) (number_in c) input (grid_of (file_in c) (number_in c))) (input_is c)
    ∙ ap (λ grid. lengths_by (file_in c) (number_in c) (input_in c) grid) (grid_is c)
    ∙ lengths_computed c

-- What the headline says of a file, in these numbers.
pub record AreOf (f : FileModel) (jobs : List Numbers) : Type 0 where
  pub rights : file_rights f ≡ map rights jobs
  pub fixed : fixed_of f ≡ intervals (flat_map spans_fixed jobs)
  pub starts : file_starts f ≡ map start jobs
  pub plain : (j : ℕ) → plain_of f j ≡ intervals (numbers_of jobs j).plain

abbrev lists_by : FileModel → ℕ → Lengths → List Interval
lists_by f j lengths = lists_in (layout_of f j) lengths

abbrev rights_by : FileModel → ℕ → Lengths → Rights
rights_by f j lengths = record { region = slot_in f j ∷ (plain_of f j ++ (lists_by f j lengths ++ codes_of f j)); writable = slot_in f j ∷ plain_of f j }

plain_alone : (j : ℕ) → plain_of textured_file j ≡ intervals (numbers_of (alone ∷ []) j).plain
unfolding plain_of textured_file two_clients named_buffers job_of data_of buffer_at
plain_alone zero = refl
plain_alone (suc j) = refl

plain_of_two : (j : ℕ) → plain_of two_clients j ≡ intervals (numbers_of (first ∷ second ∷ []) j).plain
unfolding plain_of textured_file two_clients named_buffers job_of data_of buffer_at
plain_of_two zero = refl
plain_of_two (suc zero) = refl
plain_of_two (suc (suc j)) = refl

pub alone_is : AreOf textured_file (alone ∷ [])
unfolding layout_of file_rights file_starts fixed_of fixed_below start_by lists_of slot_in plain_of textured_file two_clients named_buffers job_of data_of buffer_at codes_of code_of lists_begin begins_after lists_room slot_of render_room has_bin records_start uniforms_start render_start has_tiles render_length rounded_up tile_size loads_size is_present writes_size load_size is_full
alone_is = record {
  rights = λ i. rights_by textured_file 0 (lengths_are Alone i) ∷ [];
  fixed = λ i. lists_by textured_file 0 (lengths_are Alone i) ++ codes_of textured_file 0;
  starts = λ i. start_by (layout_of textured_file 0) (lengths_are Alone i) ∷ [];
  plain = plain_alone;
}

pub two_are : AreOf two_clients (first ∷ second ∷ [])
unfolding layout_of file_rights file_starts fixed_of fixed_below start_by lists_of slot_in plain_of textured_file two_clients named_buffers job_of data_of buffer_at codes_of code_of lists_begin begins_after lists_room slot_of render_room has_bin records_start uniforms_start render_start has_tiles render_length rounded_up tile_size loads_size is_present writes_size load_size is_full
two_are = record {
  rights = λ i. rights_by two_clients 0 (lengths_are First i) ∷ rights_by two_clients 1 (lengths_are Second i) ∷ [];
  fixed = λ i. (lists_by two_clients 0 (lengths_are First i) ++ codes_of two_clients 0) ++ (lists_by two_clients 1 (lengths_are Second i) ++ codes_of two_clients 1);
  starts = λ i. start_by (layout_of two_clients 0) (lengths_are First i) ∷ start_by (layout_of two_clients 1) (lengths_are Second i) ∷ [];
  plain = plain_of_two;
}
