-- A job file in which no rule is broken is one in which none is broken under the greatest limit of a memory.
use Rattle.std.proofs.Common.{◌≡◌, ◌++◌, None, arith, ◌∙◌}
use Rattle.field_words.specs.{Questions.first_of, Sizes.most_memory}
use Rattle.field_words.proofs.{Questions.passes, Questions.answered_none, Nones.front_none, Nones.rest_none, Nones.none_answered}
use Rattle.buffer_table.specs.Table.{most_place, table_within}
use Rattle.buffer_table.proofs.Laxer.{laxer}
use Rattle.job_format.specs.Model.{FileModel}
use Rattle.job_check.specs.Faults.{table_refused, table_stage, table_stage_within, shaders_stage, jobs_stages, stages_within, file_stages, place_stages}

table_wider : (f : FileModel) → first_of (table_stage f) ≡ None → first_of (table_stage_within most_place f) ≡ None
unfolding table_stage_within
table_wider f none =
    answered_none table_refused (table_within most_place f.mem_size f.regions f.buffers)
    (laxer most_memory most_place f.mem_size f.regions f.buffers (omega arith)
    (none_answered table_refused (table_within most_memory f.mem_size f.regions f.buffers) none))

pub wider_none : (f : FileModel) → first_of (file_stages f) ≡ None → first_of (place_stages f) ≡ None
unfolding stages_within
wider_none f none =
    let later = shaders_stage f ++ jobs_stages f in
    passes (table_stage_within most_place f) later (table_wider f (front_none (table_stage f) later none)) ∙ rest_none (table_stage f) later none
