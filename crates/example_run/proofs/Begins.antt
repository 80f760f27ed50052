-- Each memory that has the lists and the code of the file as emitted has the bytes that the run needs.
use Rattle.std.proofs.Common.{◌≡◌, ℕ, List, [], ◌∷◌, Option, Some, length, slice_index, inl, inr, refl, sym, ap, subst, arith, ◌∙◌}
use Rattle.std.specs.Prelude.{slice_index_or}
use Rattle.buffer_table.specs.{Table.buffer_at, Handles.data_of, Handles.code_of}
use Rattle.field_words.specs.{Words.rounded_up, Words.u32_at, WordBytes.word_bytes}
use Rattle.shader_records.specs.Emission.{records_text, record_text, uniforms_text, streams_text, stream_text, emitted_records, emitted_uniforms, place_added, moved_word, is_address, addressed_word, attribute_word, shader_word, emitted_word, stream_place}
use Rattle.shader_records.specs.{Inputs.InputModel, Sources.shader_used, Sources.code_number, Sources.record_source, Sources.handles_size, Sources.attribute_number, Sources.taken_before, Sources.given_before, Sources.uniform_source, Sources.stream_offset, Sources.record_word, Sources.sample_number, Sources.source_word, Emitted.streams_place}
use Rattle.relocation.specs.Layout.{records_start, uniforms_start, render_start}
use Rattle.bin_list.specs.{Emitted.state_text, Emitted.config_text, Emitted.packet_text, Seen.seen_before}
use Rattle.bin_list.specs.Packets.{packets_passed, packets, front_packet, behind}
use Rattle.packets.specs.{Length.bin_length, Length.bin_taken, Packet.packet_text as render_packet}
use Rattle.packets.specs.StateWord.{record_room, record_size, is_extended, attribute_count}
use Rattle.tile_memory.specs.Slots.{alloc_offset}
use Rattle.render_list.specs.Frame.{is_present, is_first_tile, is_last_tile}
use Rattle.render_list.specs.Text.{head_packet, clear_slots, front_slots, list_place, color_store, some_before_zs, some_before_color, load_slots, list_slots, write_slots, tile_slots, span_slots, render_slots, render_text}
use Rattle.render_list.specs.Surfaces.{place_in}
use Rattle.job_check.specs.Jobs.{job_of, slot_of, has_bin, grid_of, lists_begin, layout_of, places_in, bin_list_of, input_for, records_of, streams_of, render_list_of}
use Rattle.textured_job.specs.Job.{frame, code_bytes, fragment_words, vertex_words}
use Rattle.textured_job.proofs.{Cases.Alone, Cases.input_in, Lists.grid_is, Whole.input_is}
use Rattle.std.specs.List.{flat_map}
use Rattle.headline.specs.Numbers.{intervals, spans_fixed, alone}
use Rattle.job_check.specs.Shaders.{content_of}
use Rattle.job_format.proofs.Laws.{read_again}
use Rattle.job_check.specs.Emit.{memory_of}
use Rattle.job_check.proofs.Wider.{wider_none}
use Rattle.machine_plan.specs.{Memory.bytes_at, Regions.Agree, Regions.Inside}
use Rattle.machine_plan.proofs.Words.{byte_read}
use Rattle.accepted_law.specs.Settled.{AreSettled, Holds}
use Rattle.promises.specs.Holdings.{fixed_of, file_starts}
use Rattle.accepted_law.proofs.{Holding.holds_all, Settling.files_settle_law}
use Rattle.textured_job.specs.{Job.textured_file, Laws.textured_bytes}
use Rattle.textured_job.proofs.{Whole.file_none, Witness.is_file, Witness.textured_witness}
use Rattle.headline.proofs.Stages.{alone_is}
use Rattle.machine_plan.proofs.Memory.{bytes_agree}
use Rattle.example_run.specs.Shown.{Happens, FileRuns, ARunHappens}
use Rattle.example_run.proofs.Known.{Stands, Has}
use Rattle.example_run.proofs.Run.{part, parts, happens, bin_bytes, record_bytes, stream_bytes, render_bytes}

-- The emitted lists are these.
abbrev texts_by : InputModel → Option (ℕ × ℕ) → List (List ℕ)
texts_by input grid =
    bin_list_of textured_file 0
    ∷ emitted_records input (streams_place (layout_of textured_file 0))
    ∷ emitted_uniforms input (streams_place (layout_of textured_file 0))
    ∷ render_text frame (places_in textured_file 0) grid (slot_of textured_file 0)
    ∷ []

abbrev texts : List (List ℕ)
texts = bin_list_of textured_file 0 ∷ records_of textured_file 0 ∷ streams_of textured_file 0 ∷ render_list_of textured_file 0 ∷ []

abbrev all_bytes : List (List ℕ)
all_bytes = bin_bytes ∷ record_bytes ∷ stream_bytes ∷ render_bytes ∷ []

texts_reported : texts ≡ texts_by (input_for textured_file 0) (grid_of textured_file 0)
unfolding records_of streams_of render_list_of has_bin textured_file job_of
texts_reported = refl

texts_computed : texts_by (input_in Alone) (Some (1, 1)) ≡ all_bytes
unfolding bin_list_of has_bin textured_file job_of packets_passed packets front_packet behind bin_taken bin_length packet_text state_text config_text u32_at seen_before alloc_offset rounded_up record_room record_size is_extended attribute_count records_text record_text word_bytes uniforms_text streams_text stream_text shader_used code_number code_of buffer_at record_source places_in place_in data_of is_present is_first_tile is_last_tile head_packet clear_slots front_slots list_place color_store some_before_zs some_before_color load_slots list_slots write_slots tile_slots span_slots render_slots render_text render_packet slot_of place_added moved_word is_address addressed_word attribute_word shader_word emitted_word stream_place handles_size attribute_number taken_before given_before uniform_source stream_offset record_word sample_number source_word layout_of lists_begin records_start uniforms_start
texts_computed = refl

text_is : (k : ℕ) → slice_index_or texts k [] ≡ slice_index_or all_bytes k []
text_is k =
    ap (λ all. slice_index_or all k [])
    (texts_reported
    ∙ ap (λ input. texts_by input (grid_of textured_file 0)) (input_is Alone)
    ∙ ap (λ grid. texts_by (input_in Alone) grid) (grid_is Alone)
    ∙ texts_computed)

-- What is emitted, and lies in lists or code, stands in such a memory.
stands_as : (m : List ℕ) → Agree (fixed_of textured_file) (memory_of textured_file) m → (p q : ℕ) (xs ys : List ℕ)
    → bytes_at (memory_of textured_file) p (length xs) ≡ xs → p ≡ q → xs ≡ ys → Inside (intervals (flat_map spans_fixed (alone ∷ []))) q (length ys) → Stands m (part q ys)
stands_as m agree p q xs ys is same are inside =
    let emitted : bytes_at (memory_of textured_file) q (length ys) ≡ ys =
    subst (λ a. bytes_at (memory_of textured_file) a (length ys) ≡ ys) same (subst (λ bytes. bytes_at (memory_of textured_file) p (length bytes) ≡ bytes) are is) in
    let kept = subst (λ rs. Inside rs q (length ys)) (sym alone_is.fixed) inside in
    let here = sym (bytes_agree (fixed_of textured_file) (memory_of textured_file) m agree q (length ys) kept) ∙ emitted in
    λ i below. sym (byte_read m q (length ys) i below) ∙ ap (λ bytes. slice_index bytes i) here

settled : AreSettled textured_file
settled = files_settle_law textured_file is_file.well_formed is_file.fits (wider_none textured_file file_none)

has_parts : (m : List ℕ) → Agree (fixed_of textured_file) (memory_of textured_file) m → Has parts m
unfolding textured_file layout_of lists_begin job_of records_start uniforms_start render_start rounded_up buffer_at content_of code_bytes
has_parts m agree =
    let holds : Holds textured_file 0 (memory_of textured_file) = holds_all textured_file 0 (settled 0 (omega arith)) settled in (
      stands_as m agree _ 0 _ bin_bytes holds.bin refl (text_is 0) (inl (record { from = omega arith; upto = omega arith })),
      (
        stands_as m agree _ 48 _ record_bytes holds.records refl (text_is 1) (inr (inl (record { from = omega arith; upto = omega arith }))),
        (
          stands_as m agree _ 112 _ stream_bytes holds.uniforms refl (text_is 2) (inr (inr (inl (record { from = omega arith; upto = omega arith })))),
          (
            stands_as m agree _ 144 _ render_bytes holds.render refl (text_is 3) (inr (inr (inr (inl (record { from = omega arith; upto = omega arith }))))),
            (
              stands_as m agree _ 0x81000 _ (code_bytes fragment_words) (holds.contents 0 (omega arith)) refl refl (inr (inr (inr (inr (inl (record { from = omega arith; upto = omega arith })))))),
              (stands_as m agree _ 0x82000 _ (code_bytes vertex_words) (holds.contents 1 (omega arith)) refl refl (inr (inr (inr (inr (inr (inl (record { from = omega arith; upto = omega arith }))))))), tt),
            ),
          ),
        ),
      ),
    )

anywhere : (m : List ℕ) → Agree (fixed_of textured_file) (memory_of textured_file) m → Happens (file_starts textured_file) m
anywhere m agree = subst (λ starts. Happens starts m) (sym alone_is.starts) (happens m (has_parts m agree))

file_runs : FileRuns textured_file
unfolding buffer_at textured_file
file_runs = record { buffer = refl; emitted = anywhere (memory_of textured_file) (record { long = refl; same = λ p lies. refl }); anywhere = anywhere }

pub run_happens : ARunHappens textured_bytes
run_happens = record { accepted = textured_witness.accepted; runs = subst FileRuns (sym (read_again textured_bytes textured_file is_file).1) file_runs }
