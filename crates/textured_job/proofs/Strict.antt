-- No strict rule is broken in any of the files.
use Rattle.std.proofs.Common.{◌≡◌, None, refl}
use Rattle.field_words.specs.{Questions.first_of, Questions.each, Questions.with_answers, Words.u32_at, Words.u64_at}
use Rattle.qpu_isa.specs.Terms.{loads}
use Rattle.shader_flow.specs.Flow.{end_of, checked_of, is_sound_branch, makes_target, is_target, is_threaded}
use Rattle.shader_flow.specs.Bounded.{some_below, some_in, indexes, last_below}
use Rattle.shader_flow.specs.Pending.{pending_of, takes, count_of}
use Rattle.buffer_table.specs.{Table.buffer_at, Handles.code_of}
use Rattle.packets.specs.{Length.bin_length, Length.bin_taken, StateWord.attribute_count, StateWord.record_size, StateWord.is_extended}
use Rattle.bin_list.specs.{Packets.packets, Packets.front_packet, Packets.behind, States.draws_to, Packets.draws}
use Rattle.shader_records.specs.Sources.{handles_size, source_size}
use Rattle.job_check.specs.{Jobs.job_of, Jobs.states_in, Shaders.words_in, Shaders.content_of}
use Rattle.strict_rules.specs.Words.{reads_address, uses_vpm, is_coupled, add_couples, mul_couples, loads_result, coupled_of, names_tile, has_tile_signal, uses_tile}
use Rattle.strict_rules.specs.Queue.{keeps_words, request_at, queue_after, queue_of, requests_of, slots_of, most_slots, most_requests, last_act}
use Rattle.strict_rules.specs.Rules.{e1, e2, meets_requests, loads_none, lacks_slot, lacks_room, leaves_requests, e3, loads_early, switches_late, e4, e5, e6, e7, index_questions, strict_at, questions_at, strict_questions, has_vpm_part, has_tile_part}
use Rattle.strict_lists.specs.{Rules.e9, Rules.course_before, Rules.e10, Rules.is_reset, Rules.e13, Rules.packet_questions, Rules.list_fault, Rules.list_questions, Records.selects_past, Records.selection_questions}
use Rattle.strict_check.specs.Stages.{code_stage, codes_stage, list_stage, use_questions, record_questions, records_stage, job_stages, strict_stages}
use Rattle.strict_check.specs.Uses.{uses_of, uses_at, uses_named}
use Rattle.textured_job.specs.Job.{code_bytes, textured_file, two_clients, one_client}
use Rattle.textured_job.proofs.Cases.{Case, Alone, First, Second, Single, file_in}
use Rattle.qpu_isa.proofs.Opened.{fields, terms}

pub strict_none : (c : Case) → first_of (strict_stages (file_in c)) ≡ None
unfolding each with_answers u32_at u64_at end_of checked_of is_sound_branch makes_target is_target is_threaded some_below some_in indexes last_below pending_of takes count_of buffer_at code_of bin_length bin_taken attribute_count record_size is_extended packets front_packet behind draws_to handles_size source_size job_of states_in words_in content_of reads_address loads uses_vpm is_coupled add_couples mul_couples loads_result coupled_of names_tile has_tile_signal uses_tile keeps_words request_at queue_after queue_of requests_of slots_of most_slots most_requests last_act e1 e2 meets_requests loads_none lacks_slot lacks_room leaves_requests e3 loads_early switches_late e4 e5 e6 e7 index_questions strict_at questions_at strict_questions has_vpm_part has_tile_part draws e9 course_before e10 is_reset e13 packet_questions list_fault list_questions selects_past selection_questions code_stage codes_stage list_stage use_questions record_questions records_stage job_stages strict_stages uses_of uses_at uses_named code_bytes textured_file two_clients one_client fields terms
strict_none Alone = refl
strict_none First = refl
strict_none Second = refl
strict_none Single = refl
