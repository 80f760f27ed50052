-- The file of two clients and that of one are neighbours for the first client.
use Rattle.std.proofs.Common.{◌≡◌, ℕ, ◌+◌, ◌<◌, ◌≤◌, zero, suc, true, false, length, slice_index, refl, sym, ap, subst, arith, ◌∙◌}
use Rattle.std.proofs.{lemmas.Bool.false≢true, lemmas.Grind.common_steps, lemmas.Bool.Decides.nat_tests}
use Rattle.field_words.specs.{WordBytes.word_bytes, Words.u32_at, Words.rounded_up}
use Rattle.packets.specs.Length.{bin_length, bin_taken}
use Rattle.packets.specs.StateWord.{attribute_count, record_size, record_room, is_extended}
use Rattle.buffer_table.specs.{Table.buffer_at, Handles.code_of, Handles.data_of}
use Rattle.bin_list.specs.Packets.{packets, packets_passed, front_packet, behind}
use Rattle.bin_list.specs.{Seen.seen_before, Emitted.packet_text, Emitted.state_text, Emitted.config_text}
use Rattle.shader_records.specs.Emission.{emitted_records, emitted_uniforms, records_text, record_text, emitted_word, shader_word, attribute_word, stream_place, uniforms_text, streams_text, stream_text, addressed_word, moved_word, place_added, is_address}
use Rattle.shader_records.specs.Sources.{record_source, record_offset, handles_size, record_word, source_word, sample_number, uniform_source, stream_offset, taken_before, given_before, shader_used, code_number, attribute_number}
use Rattle.shader_records.specs.Emitted.{streams_place}
use Rattle.render_list.specs.{Surfaces.place_in, Text.render_text}
use Rattle.shader_records.proofs.Lengths.{length_records, length_uniforms}
use Rattle.job_format.specs.{Model.FileModel, Reading.file_at}
use Rattle.job_format.proofs.Laws.{read_again}
use Rattle.job_check.specs.Jobs.{job_of, has_bin, grid_of, slot_of, lists_begin, layout_of, places_in, bin_list_of, records_of, streams_of, render_list_of}
use Rattle.job_check.specs.{Shaders.content_of, Emit.lengths_of, Emit.memory_of}
use Rattle.job_check.proofs.{Views.list_length, Views.lengths, Views.lengths_are, Wider.wider_none}
use Rattle.accepted_law.specs.Neighbours.{FilledAlike}
use Rattle.promises.specs.Apart.{jobs_of, named_at, StandAlike, PlacedAlike, AreNeighbourFiles, AlikeTo}
use Rattle.accepted_law.specs.Settled.{Settled}
use Rattle.accepted_law.proofs.{Emitted.emitted_alike_law, RenderWalking.frame_setup, Settling.files_settle_law}
use Rattle.textured_job.specs.{Job.two_clients, Job.one_client, Laws.AreWitnesses, Laws.two_clients_bytes, Laws.one_client_bytes}
use Rattle.textured_job.proofs.Cases.{Case, First, Single, file_in, number_in, input_in}
use Rattle.textured_job.proofs.{Lists.bin_there, Lists.grid_is, Whole.input_is, Whole.file_none_of_two, Whole.file_none_of_one}
use Rattle.textured_job.proofs.Witness.{two_are_file, one_is_file, two_clients_witness, one_client_accepted, two_in}

-- past the last job there is none of the client
beyond : (c : ℕ) (f : FileModel) (j : ℕ) → length f.jobs ≤ j → jobs_of c f j ≡ false
unfolding jobs_of
beyond c f j past = grind (arith, past)

one_in : length one_client.jobs ≡ 1
unfolding two_clients one_client
one_in = refl

same_jobs : (j : ℕ) → jobs_of 1 two_clients j ≡ jobs_of 1 one_client j
unfolding jobs_of job_of two_clients one_client
same_jobs zero = refl
same_jobs (suc zero) = refl
same_jobs (suc (suc j)) = beyond 1 two_clients (suc (suc j)) (omega (arith, two_in)) ∙ sym (beyond 1 one_client (suc (suc j)) (omega (arith, one_in)))

first_only : (j : ℕ) → jobs_of 1 two_clients j ≡ true → j ≡ 0
unfolding jobs_of job_of two_clients
first_only zero is = refl
first_only (suc zero) is = absurd (cc)
first_only (suc (suc j)) is = absurd (false≢true (sym (beyond 1 two_clients (suc (suc j)) (omega (arith, two_in))) ∙ is))

same_layout : layout_of two_clients 0 ≡ layout_of one_client 0
unfolding layout_of two_clients one_client lists_begin has_bin job_of slot_of
same_layout = refl

-- The lists are as long: the binner list by what it says, records and streams by their states and shaders, and the renderer list by the
-- layout.
same_bin : length (bin_list_of two_clients 0) ≡ length (bin_list_of one_client 0)
unfolding bin_list_of two_clients one_client has_bin job_of packets_passed packets packet_text state_text config_text seen_before front_packet behind bin_taken bin_length u32_at
same_bin = refl

records_long : (c : Case) → length (records_of (file_in c) (number_in c)) ≡ record_offset (input_in c) 1
unfolding records_of
records_long c = grind (arith, common_steps, nat_tests, file_in, number_in, input_in, input_is, length_records, bin_there)

same_records : record_offset (input_in First) 1 ≡ record_offset (input_in Single) 1
unfolding record_offset
same_records = refl

streams_long : (c : Case) → length (streams_of (file_in c) (number_in c)) ≡ stream_offset (input_in c) 1
unfolding streams_of
streams_long c = grind (arith, common_steps, nat_tests, file_in, number_in, input_in, input_is, length_uniforms, bin_there)

same_streams : stream_offset (input_in First) 1 ≡ stream_offset (input_in Single) 1
unfolding stream_offset record_source given_before shader_used code_number code_of u32_at buffer_at two_clients one_client
same_streams = refl

render_long : (f : FileModel) → Settled f 0 → (layout_of f 0).render + length (render_list_of f 0) ≡ (layout_of f 0).end
render_long f settled = list_length f 0 (places_in f 0) refl (frame_setup f 0 settled)

same_render : length (render_list_of two_clients 0) ≡ length (render_list_of one_client 0)
same_render =
    let two = render_long two_clients (files_settle_law two_clients two_are_file.well_formed two_are_file.fits (wider_none two_clients file_none_of_two) 0 (omega (arith, two_in))) in
    let one = render_long one_client (files_settle_law one_client one_is_file.well_formed one_is_file.fits (wider_none one_client file_none_of_one) 0 (omega (arith, one_in))) in
    omega (arith, two, one, ap (λ l. l.render) same_layout, ap (λ l. l.end) same_layout)

same_lengths : lengths_of two_clients 0 ≡ lengths_of one_client 0
same_lengths =
    let bin : ℕ = length (bin_list_of one_client 0) in
    let records : ℕ = length (records_of one_client 0) in
    let streams : ℕ = length (streams_of one_client 0) in
    let render : ℕ = length (render_list_of one_client 0) in
    let two : lengths bin records streams render ≡ lengths_of two_clients 0 =
    lengths_are two_clients 0 bin records streams render (sym same_bin)
    (records_long Single ∙ sym same_records ∙ sym (records_long First)) (streams_long Single ∙ sym same_streams ∙ sym (streams_long First)) (sym same_render) in
    sym two ∙ lengths_are one_client 0 bin records streams render refl refl refl refl

same_named : (i : ℕ) → i < length (job_of two_clients 0).handles → StandAlike (named_at two_clients 0 i) (named_at one_client 0 i)
unfolding job_of two_clients one_client buffer_at
same_named zero below = record { place = refl; size = refl; kind = refl }
same_named (suc zero) below = record { place = refl; size = refl; kind = refl }
same_named (suc (suc zero)) below = record { place = refl; size = refl; kind = refl }
same_named (suc (suc (suc zero))) below = record { place = refl; size = refl; kind = refl }
same_named (suc (suc (suc (suc i)))) below = absurd (omega (arith, below))

same_handles : length (job_of two_clients 0).handles ≡ length (job_of one_client 0).handles
unfolding job_of two_clients one_client
same_handles = refl

placed_alike : (j : ℕ) → jobs_of 1 two_clients j ≡ true → PlacedAlike two_clients one_client j
placed_alike j mine =
    subst (PlacedAlike two_clients one_client) (sym (first_only j mine))
    (record { layout = same_layout; lengths = same_lengths; handles = same_handles; named = same_named })

near : AreNeighbourFiles 1 two_clients one_client
near = record { jobs = same_jobs; places = placed_alike }

-- The job holds the same in both: where its packets, its record and its stream name buffers, these stand at the same places.
same_bin_list : bin_list_of two_clients 0 ≡ bin_list_of one_client 0
unfolding bin_list_of layout_of two_clients one_client lists_begin has_bin job_of slot_of packets_passed packets packet_text state_text config_text seen_before front_packet behind bin_taken bin_length u32_at
same_bin_list = refl

records_are : (c : Case) → records_of (file_in c) (number_in c) ≡ emitted_records (input_in c) (streams_place (layout_of (file_in c) (number_in c)))
unfolding records_of
records_are c = grind (arith, common_steps, nat_tests, file_in, number_in, bin_there, input_is)

record_same : (first : ℕ) → emitted_records (input_in First) first ≡ emitted_records (input_in Single) first
unfolding two_clients one_client records_text record_text word_bytes record_room record_size attribute_count is_extended rounded_up handles_size emitted_word shader_word attribute_word stream_place stream_offset record_source given_before shader_used code_number attribute_number code_of data_of record_word u32_at buffer_at
record_same first = refl

streams_are : (c : Case) → streams_of (file_in c) (number_in c) ≡ emitted_uniforms (input_in c) (streams_place (layout_of (file_in c) (number_in c)))
unfolding streams_of
streams_are c = grind (arith, common_steps, nat_tests, file_in, number_in, bin_there, input_is)

stream_same : (first : ℕ) → emitted_uniforms (input_in First) first ≡ emitted_uniforms (input_in Single) first
unfolding two_clients one_client uniforms_text streams_text stream_text addressed_word moved_word place_added is_address source_word sample_number uniform_source stream_offset record_source taken_before given_before shader_used code_number code_of data_of u32_at buffer_at
stream_same first = refl

same_places : places_in two_clients 0 ≡ places_in one_client 0
unfolding places_in two_clients one_client job_of place_in data_of buffer_at
same_places = refl

same_slot : slot_of two_clients 0 ≡ slot_of one_client 0
unfolding slot_of two_clients one_client
same_slot = refl

same_job : job_of two_clients 0 ≡ job_of one_client 0
unfolding job_of two_clients one_client
same_job = refl

same_render_list : render_list_of two_clients 0 ≡ render_list_of one_client 0
unfolding render_list_of
same_render_list =
    ap (λ job. render_text job.frame (places_in two_clients 0) (grid_of two_clients 0) (slot_of two_clients 0)) same_job
    ∙ ap (λ places. render_text (job_of one_client 0).frame places (grid_of two_clients 0) (slot_of two_clients 0)) same_places
    ∙ ap (λ grid. render_text (job_of one_client 0).frame (places_in one_client 0) grid (slot_of two_clients 0)) (grid_is First ∙ sym (grid_is Single))
    ∙ ap (render_text (job_of one_client 0).frame (places_in one_client 0) (grid_of one_client 0)) same_slot

same_contents : (i : ℕ) → i < length (job_of two_clients 0).handles
    → content_of two_clients (slice_index (job_of two_clients 0).handles i) ≡ content_of one_client (slice_index (job_of one_client 0).handles i)
unfolding job_of two_clients one_client content_of
same_contents zero below = refl
same_contents (suc zero) below = refl
same_contents (suc (suc zero)) below = refl
same_contents (suc (suc (suc zero))) below = refl
same_contents (suc (suc (suc (suc i)))) below = absurd (omega (arith, below))

filled_alike : (j : ℕ) → jobs_of 1 two_clients j ≡ true → FilledAlike two_clients one_client j
filled_alike j mine =
    subst (FilledAlike two_clients one_client) (sym (first_only j mine))
    (record {
      bin = same_bin_list;
      records = records_are First ∙ record_same (streams_place (layout_of two_clients 0)) ∙ ap (λ l. emitted_records (input_in Single) (streams_place l)) same_layout ∙ sym (records_are Single);
      streams = streams_are First ∙ stream_same (streams_place (layout_of two_clients 0)) ∙ ap (λ l. emitted_uniforms (input_in Single) (streams_place l)) same_layout ∙ sym (streams_are Single);
      render = same_render_list;
      contents = same_contents;
    })

same_size : two_clients.mem_size ≡ one_client.mem_size
unfolding two_clients one_client
same_size = refl

memories : AlikeTo 1 two_clients one_client (memory_of two_clients) (memory_of one_client)
memories =
    emitted_alike_law 1 two_clients one_client (record { well_formed = two_are_file.well_formed; fits = two_are_file.fits; none = wider_none two_clients file_none_of_two })
    (record { well_formed = one_is_file.well_formed; fits = one_is_file.fits; none = wider_none one_client file_none_of_one }) near same_size filled_alike

of_client : jobs_of 1 two_clients 0 ≡ true
unfolding jobs_of job_of two_clients
of_client = refl

pub neighbours_witness : AreWitnesses two_clients_bytes one_client_bytes
neighbours_witness =
    let two = (read_again two_clients_bytes two_clients two_are_file).1 in
    let one = (read_again one_client_bytes one_client one_is_file).1 in
    record {
      accepted = two_clients_witness;
      other_accepted = one_client_accepted;
      other_job = ap (λ f. length f.jobs) one ∙ one_in;
      of_client = ap (λ f. jobs_of 1 f 0) two ∙ of_client;
      neighbours =
          subst (λ f. AreNeighbourFiles 1 f (file_at one_client_bytes)) (sym two)
          (subst (AreNeighbourFiles 1 two_clients) (sym one) near);
      memories =
          subst (λ f. AlikeTo 1 f (file_at one_client_bytes) (memory_of f) (memory_of (file_at one_client_bytes))) (sym two)
          (subst (λ g. AlikeTo 1 two_clients g (memory_of two_clients) (memory_of g)) (sym one) memories);
    }
