-- All rules that can refuse a file that was read, in the order of refusal: the memory table, the shaders by buffer,
-- and then job by job its handles, its binner list, its shader records with their uniforms, its frame and surfaces, and its layout.
use Rattle.std.specs.Prelude.{◌≡◌, ℕ, Bool, not, ◌+◌, ◌-◌, ◌*◌, ◌%◌, ◌==◌, ◌<◌, nat_lt, List, [], ◌∷◌, ◌++◌, length, None, Result, Ok, Err, if◌then◌else◌}
use Rattle.field_words.specs.{Questions.Question, Questions.Ask, Questions.first_of, Questions.each, Questions.with_answers, Sizes.most_memory}
use Rattle.field_words.specs.{declared.stop.Stop.Stop, declared.stop.Stop.TheVariants.Fault, declared.stop.Stop.TheVariants.NoMemory}
use Rattle.buffer_table.specs.{declared.buffer.TableFault.TableFault, declared.buffer.Kind.Kind, Handles.handles_questions}
use Rattle.buffer_table.specs.declared.buffer.Kind.TheVariants.{Plain, Code}
use Rattle.buffer_table.specs.Table.{most_place, table_within, buffer_at}
use Rattle.job_format.specs.declared.rule.Stage.TheVariants.{M, S, H, B, G, X}
use Rattle.job_format.specs.declared.rule.Part.TheVariants.{Header, Entry, JobEntry, Contents, Handles, BinnerList, Records, Uniforms}
use Rattle.job_format.specs.{declared.rule.Stage.Stage, declared.rule.Part.Part, declared.rule.Place.Place, declared.rule.Refusal.Refusal, Model.FileModel, Places.place_in}
use Rattle.render_list.specs.{declared.fault.RenderFault.RenderFault, Surfaces.surface_faults}
use Rattle.bin_list.specs.{declared.fault.ListFault.ListFault, Rules.bin_questions}
use Rattle.relocation.specs.Layout.{region_end}
use Rattle.shader_records.specs.{declared.fault.RecordFault.RecordFault, Rules.all_questions}
use Rattle.job_check.specs.Jobs.{job_of, has_bin, grid_of, input_for, layout_of, end_of}
use Rattle.job_check.specs.Shaders.{table_of, content_of, code_questions}
use Rattle.shader_check.specs.declared.fault.ShaderFault.{ShaderFault}

-- a refusal by a rule, at a place in the file
abbrev pub refusal_by : Stage → ℕ → Place → Refusal
refusal_by stage number place = record { rule = record { stage = stage; number = number }; place = place }

-- M: the memory table, of a memory of at most so many bytes, which are 64 MiB for a file. Item 0 of it is the memory, 1 the lists' region,
-- 2 the tile region, 3 + b buffer b.
unfoldable pub item_place : ℕ → Place
item_place item =
    if item == 0 then place_in Header 0 8
    else (if item == 1 then place_in Header 0 12 else (if item == 2 then place_in Header 0 20 else place_in Entry (item - 3) 0))

abbrev pub table_refused : TableFault → Refusal
table_refused fault = refusal_by M fault.number (item_place fault.item)

unfoldable pub table_stage_within : (limit : ℕ) → FileModel → List (Question Refusal)
table_stage_within limit f = with_answers table_refused (table_within limit f.mem_size f.regions f.buffers)

abbrev pub table_stage : FileModel → List (Question Refusal)
table_stage = table_stage_within most_memory

-- S: the shader in buffer b, and all shaders by buffer. A rule is broken at an instruction; the one on the length is broken at the
-- buffer's length field.
abbrev pub shader_place : ℕ → ShaderFault → Place
shader_place b fault = if fault.number == 1 then place_in Entry b 16 else place_in Contents b (8 * fault.index)

abbrev pub shader_refused : ℕ → ShaderFault → Refusal
shader_refused b fault = refusal_by S fault.number (shader_place b fault)

abbrev pub shader_questions_in : Kind → List ℕ → List (Question ShaderFault)
shader_questions_in Plain content = []
shader_questions_in Code content = code_questions content

unfoldable pub shader_stage : FileModel → ℕ → List (Question Refusal)
shader_stage f b = with_answers (shader_refused b) (shader_questions_in (buffer_at f.buffers b).kind (content_of f b))

unfoldable pub shaders_stage : FileModel → List (Question Refusal)
shaders_stage f = each (shader_stage f) 0 (length f.buffers)

-- The one rule of a shader that is asked before memory is taken: its bytes are whole words.
abbrev pub whole_questions_in : Kind → List ℕ → List (Question ShaderFault)
whole_questions_in Plain content = []
whole_questions_in Code content = Ask (not (length content % 8 == 0)) (record { number = 1; index = 0 }) ∷ []

unfoldable pub whole_stage : FileModel → ℕ → List (Question Refusal)
whole_stage f b = with_answers (shader_refused b) (whole_questions_in (buffer_at f.buffers b).kind (content_of f b))

-- Where S may end for want of memory: at a buffer before which no rule of a shader is broken, and whose own bytes are whole words.
pub record MayEndAt (f : FileModel) (b : ℕ) : Type 0 where
  pub inside : b < length f.buffers
  pub before : first_of (each (shader_stage f) 0 b) ≡ None
  pub whole : first_of (whole_stage f b) ≡ None

abbrev pub HidesNoShader : {X : Type 0} → FileModel → Result X (Stop Refusal) → Type 0
HidesNoShader f (Ok made) = Unit {0}
HidesNoShader f (Err (Fault refusal)) = Unit {0}
HidesNoShader f (Err NoMemory) = (b : ℕ) × MayEndAt f b

-- H: the handles of job j
abbrev pub handle_refused : ℕ → ℕ → Refusal
handle_refused j index = refusal_by H 1 (place_in Handles j (4 * index))

unfoldable pub handles_stage : FileModel → ℕ → List (Question Refusal)
handles_stage f j = with_answers (handle_refused j) (handles_questions (table_of f) (job_of f j).client (job_of f j).handles)

-- B: the binner list of job j, where it has one
abbrev pub bin_refused : ℕ → ListFault → Refusal
bin_refused j fault = refusal_by B fault.number (place_in BinnerList j fault.at)

unfoldable pub bin_stage : FileModel → ℕ → List (Question Refusal)
bin_stage f j =
    if has_bin f j
    then with_answers (bin_refused j) (bin_questions (job_of f j).bin (job_of f j).declared (table_of f) (job_of f j).handles)
    else []

-- A and U: its shader records and uniforms, where it has a binner list
abbrev pub records_part : Bool → Part
records_part in_uniforms = if in_uniforms then Uniforms else Records

abbrev pub record_refused : ℕ → RecordFault → Refusal
record_refused j fault = refusal_by fault.stage fault.number (place_in (records_part fault.in_uniforms) j fault.at)

unfoldable pub records_stage : FileModel → ℕ → List (Question Refusal)
records_stage f j = if has_bin f j then with_answers (record_refused j) (all_questions (input_for f j)) else []

-- G: the frame and the surfaces of job j, in its entry. Item 0 of a frame is the frame itself, 1 to 6 its surfaces, 7 the whole.
unfoldable pub surface_at : ℕ → ℕ
surface_at item = if item == 0 then 32 else (if item == 7 then 36 else 36 + 12 * (item - 1))

abbrev pub surface_refused : ℕ → RenderFault → Refusal
surface_refused j fault = refusal_by G fault.number (place_in JobEntry j (surface_at fault.item))

unfoldable pub surfaces_stage : FileModel → ℕ → List (Question Refusal)
surfaces_stage f j = with_answers (surface_refused j) (surface_faults (job_of f j).frame (grid_of f j) (table_of f) (job_of f j).handles)

-- X: the lists of job j end past the lists' region, at the size of its binner list
unfoldable pub layout_stage : FileModel → ℕ → List (Question Refusal)
layout_stage f j = Ask (nat_lt (region_end f.regions) (end_of (layout_of f j))) (refusal_by X 1 (place_in JobEntry j 12)) ∷ []

-- the lists of a job
unfoldable pub lists_stages : FileModel → ℕ → List (Question Refusal)
lists_stages f j = bin_stage f j ++ (records_stage f j ++ surfaces_stage f j)

-- the lists of a job, and where they end
abbrev pub laid_stages : FileModel → ℕ → List (Question Refusal)
laid_stages f j = lists_stages f j ++ layout_stage f j

-- all of a job, of all jobs, and of a file that was read, whose memory has at most so many bytes
unfoldable pub job_stages : FileModel → ℕ → List (Question Refusal)
job_stages f j = handles_stage f j ++ laid_stages f j

abbrev pub jobs_stages : FileModel → List (Question Refusal)
jobs_stages f = each (job_stages f) 0 (length f.jobs)

unfoldable pub stages_within : (limit : ℕ) → FileModel → List (Question Refusal)
stages_within limit f = table_stage_within limit f ++ (shaders_stage f ++ jobs_stages f)

abbrev pub file_stages : FileModel → List (Question Refusal)
file_stages = stages_within most_memory

-- those of a file whose places are a driver's, anywhere in the greatest memory
abbrev pub place_stages : FileModel → List (Question Refusal)
place_stages = stages_within most_place
