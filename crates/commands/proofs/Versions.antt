-- A file made to version 2 keeps all but its version.
use Rattle.std.proofs.Common.{◌≡◌, ℕ, List, refl}
use Rattle.field_words.specs.{declared.stop.Stop.Stop, declared.stop.Stop.TheVariants.Fault, declared.stop.Stop.TheVariants.NoMemory}
use Rattle.field_words.specs.Questions.{Refuses}
use Rattle.field_words.proofs.Questions.{answered_some}
use Rattle.job_format.specs.{declared.rule.FormatFault.FormatFault, Faults.format_questions, Model.FileModel, File.file_upgraded}
use Rattle.job_format.specs.Reading.{file_at}
use Rattle.job_check.specs.Jobs.{job_of, slot_of, places_in, has_bin, grid_of, lists_room, lists_begin, layout_of, states_in, input_for, bin_list_of, records_of, streams_of, render_list_of}
use Rattle.job_check.specs.{Whole.format_refused, Whole.format_stopped, Shaders.content_of, Shaders.shader_of, Shaders.shaders_up_to}
use Rattle.job_check.specs.Emit.{lengths_of}
use Rattle.job_format.proofs.Laws.{none_file}
use Rattle.job_check.proofs.Alike.{file_again, upgrade}
use Rattle.promises.specs.Holdings.{plain_of, codes_of, lists_of, slot_in, file_rights, fixed_below, fixed_of, file_starts}
use Rattle.commands.specs.Upgrade.{format_rules, UpgradeKeepsAll}

rights_alike : (f : FileModel) → file_rights (file_upgraded f) ≡ file_rights f
unfolding file_rights slot_in plain_of lists_of codes_of layout_of lengths_of bin_list_of records_of streams_of render_list_of has_bin job_of input_for places_in grid_of slot_of lists_begin states_in shaders_up_to lists_room shader_of content_of
rights_alike f = refl

plains_alike : (f : FileModel) (j : ℕ) → plain_of (file_upgraded f) j ≡ plain_of f j
unfolding plain_of job_of
plains_alike f j = refl

starts_alike : (f : FileModel) → file_starts (file_upgraded f) ≡ file_starts f
unfolding file_starts layout_of lengths_of bin_list_of records_of streams_of render_list_of has_bin job_of input_for places_in grid_of slot_of lists_begin states_in shaders_up_to lists_room shader_of content_of
starts_alike f = refl

fixed_alike : (f : FileModel) → fixed_of (file_upgraded f) ≡ fixed_of f
unfolding fixed_of fixed_below lists_of codes_of layout_of lengths_of bin_list_of records_of streams_of render_list_of has_bin job_of input_for places_in grid_of slot_of lists_begin states_in shaders_up_to lists_room shader_of content_of
fixed_alike f = refl

pub upgrade_keeps_all : UpgradeKeepsAll
upgrade_keeps_all bytes fits none =
    let f = file_at bytes in
    let is = none_file bytes fits none in
    let alike = upgrade.alike f in record {
      spells = file_again f is.fits is.well_formed;
      refusal = upgrade.refusal bytes fits none;
      memory = alike.memory;
      layouts = alike.layouts;
      lengths = alike.lengths;
      rights = rights_alike f;
      plains = plains_alike f;
      starts = starts_alike f;
      fixed = fixed_alike f;
    }

-- A fault of the format is the refusal by its rule.
pub stopped : (bytes : List ℕ) (stop : Stop FormatFault) → Refuses (format_questions bytes) stop → Refuses (format_rules bytes) (format_stopped stop)
stopped bytes (Fault fault) refuses = answered_some format_refused (format_questions bytes) fault refuses
stopped bytes NoMemory refuses = tt
