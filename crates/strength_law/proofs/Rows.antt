-- Rules at rows, by computing.
use Rattle.std.proofs.Common.{refl}
use Rattle.field_words.specs.{Words.u32_at, Words.rounded_up, Questions.with_answers}
use Rattle.packets.specs.Length.{bin_length, bin_taken}
use Rattle.tile_memory.specs.Slots.{alloc_offset, slot_fits}
use Rattle.bin_list.specs.Rules.{cut_questions, flush_questions, start_questions, increment_questions, config_questions, kind_questions, packet_questions, end_questions, questions_of}
use Rattle.bin_list.specs.{Packets.front_packet, Packets.behind, Packets.packets, Packets.packets_passed, Seen.seen_before}
use Rattle.render_list.specs.Frame.{is_multisample, tile_side}
use Rattle.render_list.specs.Surfaces.{is_reversed, is_outside_grid, is_outside_frame, frame_questions}
use Rattle.strength_law.specs.Rows.{ConfigurationFlags, FrameEdges}

pub configuration_flags : ConfigurationFlags
unfolding with_answers u32_at rounded_up bin_length bin_taken alloc_offset slot_fits front_packet behind packets packets_passed seen_before cut_questions flush_questions start_questions increment_questions config_questions kind_questions packet_questions end_questions questions_of
configuration_flags = record { bit_1 = refl; bit_7 = refl; both = refl; none = refl; all_others = refl }

pub frame_edges : FrameEdges
unfolding is_multisample tile_side is_reversed is_outside_grid is_outside_frame frame_questions
frame_edges = record { across = refl; down = refl; beyond = refl; one_pixel = refl; whole = refl }
