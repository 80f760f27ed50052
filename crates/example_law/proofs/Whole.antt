-- No rule is broken by an example, stage by stage.
use Rattle.std.proofs.Common.{◌≡◌, ℕ, ◌*◌, ◌≤◌, Bool, true, false, List, [], ◌∷◌, Some, None, length, refl, ap, arith, ◌∙◌}
use Rattle.std.proofs.lemmas.{Grind.common_steps, Bool.Decides.nat_tests}
use Rattle.std.specs.Prelude.{if◌then◌else◌}
use Rattle.field_words.specs.Questions.{Question, Ask, first_of, each, with_answers}
use Rattle.field_words.proofs.Questions.{passes, answered_none}
use Rattle.buffer_table.specs.{Table.buffer_at}
use Rattle.job_format.specs.{declared.rule.Refusal.Refusal, File.IsFileOf}
use Rattle.job_format.proofs.Laws.{read_again}
use Rattle.render_list.specs.Surfaces.{surface_faults}
use Rattle.job_check.specs.Jobs.{job_of, has_bin, grid_of, render_room, lists_begin, layout_of, states_in, input_for}
use Rattle.job_check.specs.Faults.{table_stage, shader_stage, shaders_stage, handles_stage, bin_stage, records_stage, surface_refused, surfaces_stage, layout_stage, lists_stages, job_stages, file_stages, table_stage_within, stages_within}
use Rattle.job_check.specs.Shaders.{words_in, report_of, content_of, shader_of, shaders_up_to}
use Rattle.job_check.specs.Whole.{refusal_of, all_questions as file_questions, questions_within}
use Rattle.example_job.specs.Example.{file_of, example, across_of, down_of, count_of, frame_of, shader}
use Rattle.example_job.specs.Lists.{records_of}
use Rattle.example_job.proofs.Formed.{bin_length, records_length, well_formed}
use Rattle.example_law.proofs.Numbers.{states_are, in_range, IsTiles, tiles_in, is_some, memory_bytes, table_for, table_no_fault, handles_no_fault, render_most, lists_fit}
use Rattle.example_law.proofs.{Shader.shader_no_fault, Shader.shader_reported, Bin.bin_no_fault, Bin.grid_is, Bin.states_reported}
use Rattle.example_law.proofs.Records.{input, records_no_fault, surfaces_no_fault}
use Rattle.example_law.specs.Laws.{IsInRange, IsFaultless}

few_in : {across down count : ℕ} → IsInRange across down count → count ≤ 17476
few_in range = let few = range.records in omega arith

table_none : (seed across down count : ℕ) → IsTiles (across * down) → first_of (table_stage (file_of seed across down count)) ≡ None
unfolding table_stage_within file_of
table_none seed across down count tiles = grind (arith, common_steps, nat_tests, answered_none, memory_bytes, table_for, table_no_fault)

shaders_none : (seed across down count : ℕ) → first_of (shaders_stage (file_of seed across down count)) ≡ None
unfolding shaders_stage shader_stage each with_answers buffer_at content_of file_of
shaders_none seed across down count = grind (arith, common_steps, nat_tests, passes, answered_none, shader_no_fault)

handles_none : (seed across down count : ℕ) → first_of (handles_stage (file_of seed across down count) 0) ≡ None
unfolding handles_stage job_of file_of
handles_none seed across down count = grind (arith, common_steps, nat_tests, answered_none, table_for, handles_no_fault)

-- it has a binner list
list_there : (seed across down count : ℕ) → has_bin (file_of seed across down count) 0 ≡ true
unfolding has_bin job_of file_of
list_there seed across down count = grind (arith, common_steps, nat_tests, bin_length, is_some)

none_if : {F : Type 0} (asked : Bool) (questions : List (Question F)) → first_of questions ≡ None → first_of (if asked then questions else []) ≡ None
none_if true questions none = none
none_if false questions none = refl

bin_none : (seed across down count : ℕ) → IsInRange across down count → first_of (bin_stage (file_of seed across down count) 0) ≡ None
unfolding bin_stage job_of file_of
bin_none seed across down count range =
    grind (arith, common_steps, nat_tests, table_for, none_if, answered_none, bin_no_fault, tiles_in, few_in)

-- what its records are checked with
input_is : (seed across down count : ℕ) → count ≤ 17476 → input_for (file_of seed across down count) 0 ≡ input (across * down) count
unfolding input_for states_in job_of shader_of shaders_up_to content_of buffer_at file_of
input_is seed across down count few =
    ap (λ states. record { states = states; records = records_of count; uniforms = []; table = table_for (across * down); handles = 0 ∷ 1 ∷ 2 ∷ []; shaders = Some (report_of (words_in shader 3)) ∷ None ∷ None ∷ [] }) (states_reported across down count few)
    ∙ ap (λ info. record { states = states_are 0 count; records = records_of count; uniforms = []; table = table_for (across * down); handles = 0 ∷ 1 ∷ 2 ∷ []; shaders = Some info ∷ None ∷ None ∷ [] }) shader_reported

records_none : (seed across down count : ℕ) → count ≤ 17476 → first_of (records_stage (file_of seed across down count) 0) ≡ None
unfolding records_stage
records_none seed across down count few = grind (arith, common_steps, nat_tests, none_if, answered_none, input_is, records_no_fault)

grid_reported : (seed across down count : ℕ) → grid_of (file_of seed across down count) 0 ≡ Some (across, down)
unfolding grid_of job_of file_of
grid_reported seed across down count = grind (arith, common_steps, nat_tests, list_there, grid_is)

surfaces_none : (seed across down count : ℕ) → IsInRange across down count → first_of (surfaces_stage (file_of seed across down count) 0) ≡ None
unfolding surfaces_stage job_of file_of
surfaces_none seed across down count range =
    let f = file_of seed across down count in
    answered_none (surface_refused 0) (surface_faults (frame_of across down) (grid_of f 0) (table_for (across * down)) (0 ∷ 1 ∷ 2 ∷ []))
    (ap (λ grid. first_of (surface_faults (frame_of across down) grid (table_for (across * down)) (0 ∷ 1 ∷ 2 ∷ []))) (grid_reported seed across down count)
    ∙ surfaces_no_fault across down count range)

none_asked : {F : Type 0} (broken : Bool) (answer : F) → broken ≡ false → first_of (Ask broken answer ∷ []) ≡ None
none_asked broken answer is = ap (λ s. first_of (Ask s answer ∷ [])) is

room_is : (seed across down count : ℕ) → IsInRange across down count → render_room (frame_of across down) (has_bin (file_of seed across down count) 0) ≤ 33699
room_is seed across down count range = grind (arith, common_steps, nat_tests, list_there, render_most, tiles_in)

layout_none : (seed across down count : ℕ) → IsInRange across down count → first_of (layout_stage (file_of seed across down count) 0) ≡ None
unfolding layout_stage layout_of lists_begin job_of file_of
layout_none seed across down count range =
    grind (arith, common_steps, nat_tests, bin_length, records_length, none_asked, lists_fit, room_is)

lists_none : (seed across down count : ℕ) → IsInRange across down count → first_of (lists_stages (file_of seed across down count) 0) ≡ None
unfolding lists_stages
lists_none seed across down count range = grind (arith, common_steps, nat_tests, passes, bin_none, records_none, few_in, surfaces_none)

job_none : (seed across down count : ℕ) → IsInRange across down count → first_of (job_stages (file_of seed across down count) 0) ≡ None
unfolding job_stages
job_none seed across down count range = grind (arith, common_steps, nat_tests, passes, handles_none, lists_none, layout_none)

jobs_none : (seed across down count : ℕ) → IsInRange across down count → first_of (each (job_stages (file_of seed across down count)) 0 (length (file_of seed across down count).jobs)) ≡ None
unfolding each file_of
jobs_none seed across down count range = passes (job_stages (file_of seed across down count) 0) [] (job_none seed across down count range)

file_none : (seed across down count : ℕ) → IsInRange across down count → first_of (file_stages (file_of seed across down count)) ≡ None
unfolding stages_within
file_none seed across down count range = grind (arith, common_steps, nat_tests, passes, table_none, tiles_in, shaders_none, jobs_none)

pub frame_faultless : (seed across down count : ℕ) → IsInRange across down count → IsFaultless (file_of seed across down count)
frame_faultless seed across down count range = record { well_formed = well_formed seed across down count range.records; none = file_none seed across down count range }

pub example_faultless : (number : ℕ) → IsFaultless (example number)
unfolding example
example_faultless number = frame_faultless number (across_of number) (down_of number) (count_of number) (in_range number)

-- Bytes that spell it are refused by no rule.
pub example_accepted : (number : ℕ) (bytes : List ℕ) → IsFileOf bytes (example number) → refusal_of bytes ≡ None
unfolding refusal_of questions_within
example_accepted number bytes is = grind (arith, common_steps, nat_tests, read_again, passes, answered_none, example_faultless)

pub never_refused : (number : ℕ) (bytes : List ℕ) (refusal : Refusal) → IsFileOf bytes (example number) → first_of (file_questions bytes) ≡ Some refusal → ⊥
unfolding refusal_of
never_refused number bytes refusal is broken = let none = example_accepted number bytes is in cc
