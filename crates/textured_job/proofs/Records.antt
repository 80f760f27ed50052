-- No rule is broken by the shader record of a job, nor by the uniforms of its shaders.
use Rattle.std.proofs.Common.{◌≡◌, Some, None, refl}
use Rattle.shader_records.specs.Rules.{all_questions, state_questions, record_questions, shader_questions, cut_questions, names_questions, body_questions, use_questions, code_questions, handle_questions, fixed_questions, attribute_questions, sample_questions, disagrees, is_attribute_past, has_vertex_past, first_word_at, setup_questions}
use Rattle.shader_records.specs.Sources.{record_source, uniform_source, source_size, taken_before, shader_used, handles_size, code_number, attribute_number, record_word, sample_number, source_word}
use Rattle.textured_job.specs.Job.{textured_file, two_clients, one_client, fragment_report}
use Rattle.textured_job.proofs.Cases.{Case, Alone, First, Second, Single, input_in}
use Rattle.field_words.specs.{Questions.each, Questions.with_answers, Questions.first_of, Words.u32_at, Words.rounded_up}
use Rattle.emitted_facts.specs.Records.{is_single, attribute_size, attribute_stride}
use Rattle.packets.specs.StateWord.{attribute_count, record_size, is_extended}
use Rattle.buffer_table.specs.{Handles.code_of, Handles.data_of, Table.buffer_at}
use Rattle.texture_layouts.specs.Fits.{direct_questions, texture_questions, has_two_strides, lacks_stride, has_face_past, has_level_below, has_child_image, is_face_past}
use Rattle.texture_layouts.specs.Setup.{size_below}
use Rattle.texture_layouts.specs.Level.{level_size_of, image_size_of, level_side_of, level_tiling_of, power_above, power_from}
use Rattle.texture_layouts.specs.Surface.{microtile_width_of, microtile_height_of}
use Rattle.texture_layouts.proofs.Opened.{setup}

pub records_asked : (c : Case) → first_of (all_questions (input_in c)) ≡ None
unfolding all_questions textured_file two_clients one_client each state_questions record_questions record_source shader_questions uniform_source cut_questions names_questions body_questions source_size use_questions taken_before shader_used handles_size code_questions handle_questions attribute_count fixed_questions attribute_questions record_size sample_questions code_number attribute_number disagrees is_single record_word is_attribute_past attribute_size has_vertex_past attribute_stride is_extended sample_number with_answers first_word_at setup_questions source_word code_of u32_at data_of buffer_at direct_questions texture_questions has_two_strides lacks_stride has_face_past has_level_below has_child_image is_face_past size_below level_size_of image_size_of level_side_of level_tiling_of power_above rounded_up power_from microtile_width_of microtile_height_of setup
records_asked Alone = refl
records_asked First = refl
records_asked Second = refl
records_asked Single = refl

-- the fragment shader of its state
pub drawn_is : (c : Case) → shader_used (input_in c) 0 0 ≡ Some fragment_report
unfolding shader_used textured_file two_clients one_client code_number code_of u32_at buffer_at
drawn_is Alone = refl
drawn_is First = refl
drawn_is Second = refl
drawn_is Single = refl
