-- A file in which no rule is broken settles.
use Rattle.std.proofs.Common.{◌≡◌, ℕ, zero, suc, ◌+◌, ◌%◌, ◌==◌, ◌<◌, ◌≤◌, inl, inr, Bool, true, not, if◌then◌else◌, List, [], ◌∷◌, ◌++◌, Some, None, is_some, length, get_or, sym, ap, arith, ◌∙◌, rules}
use Rattle.std.proofs.lemmas.{Bool.ltb-false, Bool.cases_lt, List.get_or_past, Grind.common_steps, Bool.Decides.nat_tests}
use Rattle.std.specs.List.{AllByRecursion}
use Rattle.field_words.specs.Questions.{Question, Ask, first_of, each}
use Rattle.field_words.proofs.{Questions.none_broken, Nones.front_none, Nones.rest_none, Nones.each_none, Nones.none_answered}
use Rattle.buffer_table.specs.declared.buffer.Kind.{Kind, TheVariants.Code}
use Rattle.buffer_table.specs.Table.{most_place, buffer_at}
use Rattle.buffer_table.specs.{Handles.AreNumbersOf, Handles.handles_questions, Sound.IsSound}
use Rattle.buffer_table.proofs.{Sounds.sound_within, Named.are_numbers}
use Rattle.bin_list.specs.Rules.{bin_questions}
use Rattle.qpu_isa.specs.Shader.{ShaderModel, IsSoundShader}
use Rattle.shader_flow.specs.Flow.{is_threaded}
use Rattle.uniform_stream.specs.Stream.{uniforms_of, address_words_of}
use Rattle.shader_check.specs.{Info.samples_of, Rules.shader_questions}
use Rattle.shader_check.proofs.{Clean.clean, Indexed.sound_shader, SoundInfo.sound as info_sound}
use Rattle.shader_records.specs.{Inputs.AreShadersOf, Inputs.shader_in, Rules.all_questions}
use Rattle.render_list.specs.Surfaces.{surface_faults}
use Rattle.job_format.specs.{File.Fits, File.JobFits, Model.FileModel, Model.JobModel}
use Rattle.relocation.specs.Layout.{region_end}
use Rattle.job_check.specs.Shaders.{table_of, words_of, code_questions, report_of, content_of, shader_for, shaders_of}
use Rattle.job_check.specs.Faults.{table_stage_within, shader_refused, shader_questions_in, shader_stage, shaders_stage, handle_refused, handles_stage, bin_stage, records_stage, surface_refused, surfaces_stage, layout_stage, lists_stages, job_stages, stages_within, place_stages}
use Rattle.job_check.specs.Jobs.{no_job, job_of, has_bin, grid_of, input_for, layout_of}
use Rattle.job_check.proofs.{Codes.is_code, Codes.shader_at, Codes.shader_count, Jobs.job_limits}
use Rattle.accepted_law.specs.Parts.{FilesSettle}

-- no rule of a stage that is asked where a test is true
asked_if : {F : Type 0} (b : Bool) (rules : List (Question F)) → b ≡ true → first_of (if b then rules else []) ≡ None → first_of rules ≡ None
asked_if b rules is none = search (rules, arith)

-- the stages of a file, and of its job j
record NoneBroken (f : FileModel) (j : ℕ) : Type 0 where
  table : first_of (table_stage_within most_place f) ≡ None
  shaders : first_of (shaders_stage f) ≡ None
  handles : first_of (handles_stage f j) ≡ None
  bin : first_of (bin_stage f j) ≡ None
  records : first_of (records_stage f j) ≡ None
  surfaces : first_of (surfaces_stage f j) ≡ None
  layout : first_of (layout_stage f j) ≡ None

none_in : (f : FileModel) (j : ℕ) → j < length f.jobs → first_of (place_stages f) ≡ None → NoneBroken f j
unfolding stages_within job_stages lists_stages
none_in f j inside none =
    let jobs = each (job_stages f) 0 (length f.jobs) in
    let rest = rest_none (table_stage_within most_place f) (shaders_stage f ++ jobs) none in
    let job : first_of (job_stages f j) ≡ None = each_none (job_stages f) 0 (length f.jobs) j (rest_none (shaders_stage f) jobs rest) (omega arith) (omega (arith, inside)) in
    let lists = bin_stage f j ++ (records_stage f j ++ surfaces_stage f j) in
    let later = rest_none (handles_stage f j) (lists ++ layout_stage f j) job in
    let all = front_none lists (layout_stage f j) later in
    let behind = rest_none (bin_stage f j) (records_stage f j ++ surfaces_stage f j) all in
    record {
      table = front_none (table_stage_within most_place f) (shaders_stage f ++ jobs) none;
      shaders = front_none (shaders_stage f) jobs rest;
      handles = front_none (handles_stage f j) (lists ++ layout_stage f j) job;
      bin = front_none (bin_stage f j) (records_stage f j ++ surfaces_stage f j) all;
      records = front_none (records_stage f j) (surfaces_stage f j) behind;
      surfaces = rest_none (records_stage f j) (surfaces_stage f j) behind;
      layout = rest_none lists (layout_stage f j) later;
    }

-- M
table_sound : (f : FileModel) → first_of (table_stage_within most_place f) ≡ None → IsSound f.mem_size f.regions f.buffers
unfolding table_stage_within
table_sound f none = search (rules, arith, sound_within, none_answered)

-- S
code_none : (kind : Kind) (content : List ℕ) → kind ≡ Code → first_of (shader_questions_in kind content) ≡ None → first_of (code_questions content) ≡ None
code_none kind content is none = search (rules, arith)

code_at : (f : FileModel) → first_of (shaders_stage f) ≡ None → (number : ℕ) → number < length f.buffers → (buffer_at f.buffers number).kind ≡ Code → first_of (code_questions (content_of f number)) ≡ None
unfolding shaders_stage shader_stage
code_at f none number inside is =
    let here = each_none (shader_stage f) 0 (length f.buffers) number none (omega arith) (omega (arith, inside)) in
    code_none (buffer_at f.buffers number).kind (content_of f number) is
    (none_answered (shader_refused number) (shader_questions_in (buffer_at f.buffers number).kind (content_of f number)) here)

-- What is reported of a shader without faults is sound.
pub code_rules : (content : List ℕ) → first_of (code_questions content) ≡ None → first_of (shader_questions (words_of content)) ≡ None
unfolding code_questions
code_rules content none = rest_none (Ask (not (length content % 8 == 0)) (record { number = 1; index = 0 }) ∷ []) (shader_questions (words_of content)) none

pub report_sound : (code : List ℕ) → first_of (shader_questions code) ≡ None → IsSoundShader (report_of code)
unfolding report_of
report_sound code none = sound_shader (uniforms_of code) (samples_of code) (address_words_of code) (is_threaded code) (info_sound code (clean code none))

sound_for : (kind : Kind) (content : List ℕ) (shader : ShaderModel) → (kind ≡ Code → first_of (code_questions content) ≡ None) → shader_for kind content ≡ Some shader → IsSoundShader shader
sound_for kind content shader none is = search (rules, arith, report_sound, code_rules)

sound_at : (f : FileModel) → first_of (shaders_stage f) ≡ None → (number : ℕ) (shader : ShaderModel) → shader_in (shaders_of f) number ≡ Some shader → IsSoundShader shader
sound_at f none number shader is =
    elim (cases_lt number (length f.buffers)) [
      | inl inside ↦
          sound_for (buffer_at f.buffers number).kind (content_of f number) shader (code_at f none number inside) (sym (shader_at f number inside) ∙ is)
      | inr past ↦
          (let nothing : shader_in (shaders_of f) number ≡ None = get_or_past (shaders_of f) number None (omega (arith, past, shader_count f)) in
          cc)
    ]

pub shaders_are : (f : FileModel) → first_of (shaders_stage f) ≡ None → AreShadersOf (table_of f) (shaders_of f)
shaders_are f none = record {
  count = shader_count f;
  code = λ number inside. is_code (buffer_at f.buffers number).kind (content_of f number) ∙ sym (ap (λ o. not (is_some o)) (shader_at f number inside));
  sound = sound_at f none;
}

-- H, B, A and U, G, X
pub handles_clear : (f : FileModel) (j : ℕ) → j < length f.jobs → first_of (place_stages f) ≡ None → first_of (handles_questions (table_of f) (job_of f j).client (job_of f j).handles) ≡ None
unfolding handles_stage
handles_clear f j inside none =
    none_answered (handle_refused j) (handles_questions (table_of f) (job_of f j).client (job_of f j).handles) (none_in f j inside none).handles

handles_none : (f : FileModel) (j : ℕ) → first_of (handles_stage f j) ≡ None → AreNumbersOf (table_of f) (job_of f j).handles
unfolding handles_stage
handles_none f j none = search (arith, are_numbers, none_answered)

bin_none : (f : FileModel) (j : ℕ) → first_of (bin_stage f j) ≡ None → has_bin f j ≡ true → first_of (bin_questions (job_of f j).bin (job_of f j).declared (table_of f) (job_of f j).handles) ≡ None
unfolding bin_stage
bin_none f j none some = grind (arith, common_steps, nat_tests, none_answered, asked_if)

records_none : (f : FileModel) (j : ℕ) → first_of (records_stage f j) ≡ None → has_bin f j ≡ true → first_of (all_questions (input_for f j)) ≡ None
unfolding records_stage
records_none f j none some = grind (arith, common_steps, nat_tests, none_answered, asked_if)

surfaces_none : (f : FileModel) (j : ℕ) → first_of (surfaces_stage f j) ≡ None → first_of (surface_faults (job_of f j).frame (grid_of f j) (table_of f) (job_of f j).handles) ≡ None
unfolding surfaces_stage
surfaces_none f j none = none_answered (surface_refused j) (surface_faults (job_of f j).frame (grid_of f j) (table_of f) (job_of f j).handles) none

lists_fit : (f : FileModel) (j : ℕ) → first_of (layout_stage f j) ≡ None → (layout_of f j).place + (layout_of f j).end ≤ region_end f.regions
unfolding layout_stage
lists_fit f j none = ltb-false (region_end f.regions) ((layout_of f j).place + (layout_of f j).end) (none_broken (layout_stage f j) none).0

-- what is true of each job is true of job j
each_job : (P : JobModel → Type 0) (jobs : List JobModel) (j : ℕ) → AllByRecursion P jobs → j < length jobs → P (get_or jobs j no_job)
each_job P [] j all inside = absurd (omega (arith, inside))
each_job P (job ∷ jobs) zero all inside = all.0
each_job P (job ∷ jobs) (suc j) all inside = each_job P jobs j all.1 (omega (arith, inside))

job_fits : (f : FileModel) (j : ℕ) → Fits f → j < length f.jobs → JobFits (job_of f j)
unfolding job_of
job_fits f j fits inside = each_job JobFits f.jobs j fits.jobs inside

pub files_settle_law : FilesSettle
files_settle_law f well fits none j inside =
    let stages = none_in f j inside none in
    record {
      well_formed = well;
      fits = fits;
      inside = inside;
      limits = job_limits f j well.jobs inside;
      job_fits = job_fits f j fits inside;
      sound = table_sound f stages.table;
      codes = code_at f stages.shaders;
      shaders = shaders_are f stages.shaders;
      numbers = handles_none f j stages.handles;
      bin = bin_none f j stages.bin;
      records = records_none f j stages.records;
      surfaces = surfaces_none f j stages.surfaces;
      lists = lists_fit f j stages.layout;
    }
