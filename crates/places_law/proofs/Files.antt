-- The first rule that a file breaks doesn't depend on where its buffers lie.
use Rattle.std.proofs.Common.{◌≡◌, ℕ, zero, suc, nat_lt, if◌then◌else◌, List, [], ◌∷◌, ◌++◌, length, map, refl, sym, ◌∙◌, ap}
use Rattle.std.specs.List.{range_with_len}
use Rattle.field_words.specs.Questions.{Ask, first_of, each, with_answers}
use Rattle.field_words.proofs.Questions.{passes}
use Rattle.buffer_table.specs.{declared.buffer.Buffer.Buffer, declared.buffer.Kind.Kind, Table.buffer_at}
use Rattle.job_format.specs.{Model.FileModel, Places.place_in, declared.rule.Stage.TheVariants.X, declared.rule.Part.TheVariants.JobEntry}
use Rattle.relocation.specs.Layout.{region_end, begins_after}
use Rattle.shader_records.specs.Rules.{all_questions}
use Rattle.job_check.specs.Shaders.{table_of, content_of, shader_for, shader_of, shaders_up_to, shaders_of}
use Rattle.job_check.specs.Jobs.{job_of, has_bin, grid_of, slot_of, lists_room, lists_begin, layout_of, end_of, states_in, input_for}
use Rattle.job_check.specs.Faults.{refusal_by, shader_refused, handle_refused, bin_refused, record_refused, surface_refused, table_stage, shader_questions_in, shader_stage, shaders_stage, handles_stage, bin_stage, records_stage, surfaces_stage, layout_stage, lists_stages, job_stages, jobs_stages, stages_within}
use Rattle.places_law.specs.Moved.{placeless, with_buffers, PlacesAreFree}
use Rattle.places_law.proofs.Tables.{AreAlike, entry_placeless, count_placeless, kind_same, each_same, handles_same}
use Rattle.places_law.proofs.{Lists.bin_same, Lists.surfaces_same, Records.records_same}

abbrev SamePlaceless : FileModel → List Buffer → Type 0
SamePlaceless f buffers = map placeless buffers ≡ map placeless f.buffers

alike_tables : (f : FileModel) (buffers : List Buffer) → SamePlaceless f buffers → AreAlike (table_of (with_buffers f buffers)) (table_of f)
alike_tables f buffers same = record {
  count = sym (count_placeless buffers) ∙ (ap length same ∙ count_placeless f.buffers);
  entries = λ number.
      sym (entry_placeless buffers number)
      ∙ (ap (λ (list : List Buffer). buffer_at list number) same ∙ entry_placeless f.buffers number);
}

count_same : (f : FileModel) (buffers : List Buffer) → SamePlaceless f buffers → length buffers ≡ length f.buffers
count_same f buffers same = (alike_tables f buffers same).count

-- S
shader_stage_same : (f : FileModel) (buffers : List Buffer) → SamePlaceless f buffers → (b : ℕ) → shader_stage (with_buffers f buffers) b ≡ shader_stage f b
unfolding shader_stage content_of
shader_stage_same f buffers same b =
    let kind = kind_same (table_of (with_buffers f buffers)) (table_of f) (alike_tables f buffers same) b in
    λ p. with_answers (shader_refused b) (shader_questions_in (kind p) (content_of f b))

shaders_stage_same : (f : FileModel) (buffers : List Buffer) → SamePlaceless f buffers → shaders_stage (with_buffers f buffers) ≡ shaders_stage f
unfolding shaders_stage
shaders_stage_same f buffers same =
    each_same (shader_stage (with_buffers f buffers)) (shader_stage f) 0 (length buffers) (shader_stage_same f buffers same)
    ∙ ap (λ (n : ℕ). each (shader_stage f) 0 n) (count_same f buffers same)

shader_of_same : (f : FileModel) (buffers : List Buffer) → SamePlaceless f buffers → (b : ℕ) → shader_of (with_buffers f buffers) b ≡ shader_of f b
unfolding shader_of content_of
shader_of_same f buffers same b =
    ap (λ (kind : Kind). shader_for kind (content_of f b)) (kind_same (table_of (with_buffers f buffers)) (table_of f) (alike_tables f buffers same) b)

shaders_same : (f : FileModel) (buffers : List Buffer) → SamePlaceless f buffers → shaders_of (with_buffers f buffers) ≡ shaders_of f
unfolding shaders_up_to
shaders_same f buffers same =
    let each_one = shader_of_same f buffers same in
    let count = count_same f buffers same in
    λ p. map (λ b. each_one b p) (range_with_len 0 (count p))

-- H
handles_stage_same : (f : FileModel) (buffers : List Buffer) → SamePlaceless f buffers → (j : ℕ) → handles_stage (with_buffers f buffers) j ≡ handles_stage f j
unfolding handles_stage job_of
handles_stage_same f buffers same j =
    let questions = handles_same (table_of (with_buffers f buffers)) (table_of f) (alike_tables f buffers same) (job_of f j).client (job_of f j).handles in
    λ p. with_answers (handle_refused j) (questions p)

-- B
bin_stage_same : (f : FileModel) (buffers : List Buffer) → SamePlaceless f buffers → (j : ℕ) → bin_stage (with_buffers f buffers) j ≡ bin_stage f j
unfolding bin_stage has_bin job_of
bin_stage_same f buffers same j =
    let questions = bin_same (job_of f j).bin (job_of f j).declared (table_of (with_buffers f buffers)) (table_of f) (job_of f j).handles (alike_tables f buffers same) in
    λ p. if has_bin f j then with_answers (bin_refused j) (questions p) else []

-- A and U
input_same : (f : FileModel) (buffers : List Buffer) → SamePlaceless f buffers → (j : ℕ) → all_questions (input_for (with_buffers f buffers) j) ≡ all_questions (input_for f j)
unfolding input_for states_in job_of
input_same f buffers same j =
    let shaders = shaders_same f buffers same in
    (λ p. all_questions (record {
      states = states_in f j;
      records = (job_of f j).records;
      uniforms = (job_of f j).uniforms;
      table = table_of (with_buffers f buffers);
      handles = (job_of f j).handles;
      shaders = shaders p;
    }))
    ∙ records_same (input_for f j) (table_of (with_buffers f buffers)) (table_of f) (alike_tables f buffers same)

records_stage_same : (f : FileModel) (buffers : List Buffer) → SamePlaceless f buffers → (j : ℕ) → records_stage (with_buffers f buffers) j ≡ records_stage f j
unfolding records_stage has_bin job_of
records_stage_same f buffers same j =
    let questions = input_same f buffers same j in
    λ p. if has_bin f j then with_answers (record_refused j) (questions p) else []

-- G
surfaces_stage_same : (f : FileModel) (buffers : List Buffer) → SamePlaceless f buffers → (j : ℕ) → surfaces_stage (with_buffers f buffers) j ≡ surfaces_stage f j
unfolding surfaces_stage grid_of has_bin job_of
surfaces_stage_same f buffers same j =
    let questions = surfaces_same (job_of f j).frame (grid_of f j) (table_of (with_buffers f buffers)) (table_of f) (job_of f j).handles (alike_tables f buffers same) in
    λ p. with_answers (surface_refused j) (questions p)

-- X
begin_same : (f : FileModel) (buffers : List Buffer) (j : ℕ) → lists_begin (with_buffers f buffers) j ≡ lists_begin f j
unfolding lists_begin lists_room has_bin job_of
begin_same f buffers zero = refl
begin_same f buffers (suc j) = ap (λ (n : ℕ). begins_after n (lists_room f j)) (begin_same f buffers j)

layout_end_same : (f : FileModel) (buffers : List Buffer) (j : ℕ) → end_of (layout_of (with_buffers f buffers) j) ≡ end_of (layout_of f j)
unfolding layout_of slot_of has_bin job_of
layout_end_same f buffers j = rw (begin_same f buffers j) refl

layout_stage_same : (f : FileModel) (buffers : List Buffer) (j : ℕ) → layout_stage (with_buffers f buffers) j ≡ layout_stage f j
unfolding layout_stage
layout_stage_same f buffers j =
    let ends = layout_end_same f buffers j in
    λ p. Ask (nat_lt (region_end f.regions) (ends p)) (refusal_by X 1 (place_in JobEntry j 12)) ∷ []

-- all of a job, and of the file behind its memory table
job_same : (f : FileModel) (buffers : List Buffer) → SamePlaceless f buffers → (j : ℕ) → job_stages (with_buffers f buffers) j ≡ job_stages f j
unfolding job_stages lists_stages
job_same f buffers same j =
    let handles = handles_stage_same f buffers same j in
    let bin = bin_stage_same f buffers same j in
    let records = records_stage_same f buffers same j in
    let surfaces = surfaces_stage_same f buffers same j in
    let layout = layout_stage_same f buffers j in
    λ p. handles p ++ ((bin p ++ (records p ++ surfaces p)) ++ layout p)

rest_same : (f : FileModel) (buffers : List Buffer) → SamePlaceless f buffers
    → (shaders_stage (with_buffers f buffers) ++ jobs_stages (with_buffers f buffers)) ≡ (shaders_stage f ++ jobs_stages f)
rest_same f buffers same =
    let shaders = shaders_stage_same f buffers same in
    let jobs = each_same (job_stages (with_buffers f buffers)) (job_stages f) 0 (length f.jobs) (job_same f buffers same) in
    λ p. shaders p ++ jobs p

pub places_are_free : PlacesAreFree
unfolding stages_within
places_are_free f buffers same before behind =
    passes (table_stage (with_buffers f buffers)) (shaders_stage (with_buffers f buffers) ++ jobs_stages (with_buffers f buffers)) behind
    ∙ (ap first_of (rest_same f buffers same)
    ∙ sym (passes (table_stage f) (shaders_stage f ++ jobs_stages f) before))
