-- A file and the same file as version 2 have the same rules after the format, and the same memory.
use Rattle.std.proofs.Common.{◌≡◌, ℕ, List, None, refl, sym, ap, arith, lit<, ◌∙◌}
use Rattle.field_words.specs.{Words.IsBytes, Questions.first_of, Questions.with_answers}
use Rattle.field_words.proofs.Questions.{passes, answered_none}
use Rattle.job_format.specs.{Faults.format_questions, File.IsFileOf, File.IsWellFormed, File.Fits, File.file_upgraded, Model.FileModel}
use Rattle.job_format.specs.{Reading.file_at, Text.file_text}
use Rattle.job_format.proofs.Laws.{none_file, read_again}
use Rattle.job_check.specs.Jobs.{job_of, slot_of, places_in, has_bin, grid_of, lists_room, lists_begin, layout_of, layouts_of, states_in, input_for, bin_list_of, records_of, streams_of, render_list_of}
use Rattle.job_check.specs.Faults.{shader_stage, shaders_stage, handles_stage, bin_stage, records_stage, surfaces_stage, layout_stage, lists_stages, job_stages, file_stages, stages_within, table_stage_within}
use Rattle.job_check.specs.Emit.{lengths_of, all_lengths_of, list_parts, later_parts, memory_parts, jobs_parts, memory_of}
use Rattle.job_check.specs.{Shaders.content_of, Shaders.shader_of, Shaders.shaders_up_to, Upgrade.AreAlike, Upgrade.UpgradeChangesNothing}
use Rattle.job_check.specs.Whole.{format_refused, refusal_of, questions_within}
use Rattle.job_check.proofs.Layouts.{slots_for}

-- No definition below these reads the version.
rules_alike : (f : FileModel) → file_stages (file_upgraded f) ≡ file_stages f
unfolding stages_within table_stage_within shaders_stage shader_stage content_of job_stages handles_stage job_of lists_stages bin_stage has_bin records_stage input_for states_in shaders_up_to shader_of surfaces_stage grid_of layout_stage layout_of lists_begin lists_room slot_of
rules_alike f = refl

lists_alike : (f : FileModel) → (memory_of (file_upgraded f) ≡ memory_of f) × (layouts_of (file_upgraded f) ≡ layouts_of f) × (all_lengths_of (file_upgraded f) ≡ all_lengths_of f)
unfolding memory_of jobs_parts memory_parts list_parts later_parts layouts_of layout_of all_lengths_of lengths_of bin_list_of records_of streams_of render_list_of has_bin job_of input_for places_in grid_of slot_of lists_begin states_in shaders_up_to lists_room shader_of content_of
lists_alike f = (refl, refl, refl)

alike : (f : FileModel) → AreAlike (file_upgraded f) f
alike f = let lists = lists_alike f in record { rules = rules_alike f; memory = lists.0; layouts = lists.1; lengths = lists.2 }

-- The upgraded file is a file, so its text holds it.
pub file_again : (f : FileModel) → Fits f → IsWellFormed f → IsFileOf (file_text (file_upgraded f)) (file_upgraded f)
file_again f fits h = record {
  fits = record { version = lit< tt; mem_size = fits.mem_size; regions = fits.regions; buffers = fits.buffers; contents = fits.contents; jobs = fits.jobs };
  well_formed = record {
    a_version = omega arith;
    known = omega arith;
    first = λ one. absurd (omega (arith, one));
    slots = λ two some. slots_for f h some;
    buffers = h.buffers;
    code = h.code;
    contents = h.contents;
    some_job = h.some_job;
    few_jobs = h.few_jobs;
    jobs = h.jobs;
  };
  text = refl;
}

-- After the format, the rules of the file that the bytes hold decide.
after_format : (bytes : List ℕ) → first_of (format_questions bytes) ≡ None → refusal_of bytes ≡ first_of (file_stages (file_at bytes))
unfolding refusal_of questions_within
after_format bytes none = passes (with_answers format_refused (format_questions bytes)) (file_stages (file_at bytes)) (answered_none format_refused (format_questions bytes) none)

same_refusal : (bytes : List ℕ) → IsBytes bytes → first_of (format_questions bytes) ≡ None → refusal_of (file_text (file_upgraded (file_at bytes))) ≡ refusal_of bytes
same_refusal bytes fits none =
    let f = file_at bytes in
    let is = none_file bytes fits none in
    let again = read_again (file_text (file_upgraded f)) (file_upgraded f) (file_again f is.fits is.well_formed) in
    after_format (file_text (file_upgraded f)) again.0 ∙ ap (λ g. first_of (file_stages g)) again.1 ∙ ap first_of (rules_alike f) ∙ sym (after_format bytes none)

pub upgrade : UpgradeChangesNothing
upgrade = record { alike = alike; refusal = same_refusal }
