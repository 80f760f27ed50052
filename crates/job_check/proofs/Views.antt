-- What a job in view gives its methods.
use Rattle.std.proofs.Common.{◌≡◌, ℕ, ◌+◌, ◌≤◌, Bool, true, false, List, [], ◌++◌, length, take, drop, is_some, Some, None, Option, refl, sym, ap, arith, add-zero, ◌∙◌}
use Rattle.std.proofs.lemmas.List.{take-append-drop}
use Rattle.std.specs.Prelude.{if◌then◌else◌}
use Rattle.field_words.specs.{Writes.parts_placed, Writes.with_bytes}
use Rattle.field_words.specs.Questions.{first_of, with_answers}
use Rattle.field_words.proofs.Questions.{answered_none, answered_some}
use Rattle.buffer_table.specs.Table.{TableModel}
use Rattle.job_format.specs.{declared.file.Frame.Frame, Model.FileModel, Model.JobModel}
use Rattle.relocation.specs.{declared.layout.Layout.Layout, declared.layout.Lengths.Lengths}
use Rattle.render_list.specs.{Frame.IsTileSet, Frame.IsSetupFor, Length.render_length, Text.render_text}
use Rattle.render_list.proofs.Length.{length_render}
use Rattle.bin_list.specs.{declared.info.BinInfo.BinInfo, declared.state.State.State, Seen.seen_before}
use Rattle.bin_list.specs.{Packets.packets, Packets.packets_passed, States.states_of, Emitted.bin_text, Info.IsInfo, Rules.bin_questions}
use Rattle.qpu_isa.specs.Shader.{ShaderModel}
use Rattle.shader_records.specs.{declared.fault.RecordFault.RecordFault, Inputs.InputModel, Rules.all_questions, Emitted.streams_place}
use Rattle.shader_records.specs.Emission.{emitted_records, emitted_uniforms}
use Rattle.shader_records.proofs.Lengths.{length_records, length_uniforms, offset_le, stream_le, record_end, uniform_end}
use Rattle.job_check.specs.Jobs.{job_of, has_bin, grid_from, grid_of, slot_of, places_in, render_list_of, layout_of, states_in, input_for, bin_list_of, records_of, streams_of}
use Rattle.job_check.specs.Faults.{bin_refused, bin_stage, record_refused, records_stage, surfaces_stage, lists_stages}
use Rattle.job_check.specs.{Shaders.table_of, Context.InView, Context.IsContext, Context.IsReported, Report.IsBinOf}
use Rattle.job_check.specs.Emit.{PartsFit, list_parts, later_parts, lengths_of}
use Rattle.job_check.proofs.{Layouts.room_is, Layouts.layout_numbers, Layouts.layout_apart}

-- there is a grid exactly where there is a binner list
some_if : {X : Type 0} (b : Bool) (x : X) → is_some (if b then Some x else None) ≡ b
some_if true x = refl
some_if false x = refl

pub grid_some : (f : FileModel) (j : ℕ) → is_some (grid_of f j) ≡ has_bin f j
unfolding grid_of
grid_some f j = some_if (has_bin f j) _

-- the renderer list's room in the layout
pub render_ends : (v : InView) (job : JobModel) (table : TableModel) (shaders : List (Option ShaderModel)) (handles : List ℕ) (layout : Layout) (tiles : Option (ℕ × ℕ)) → IsContext v job table shaders handles layout
    → tiles ≡ grid_of v.file v.number → IsTileSet (job_of v.file v.number).frame
    → (layout.render + render_length job.frame (is_some tiles) ≡ layout.end) × (layout.end ≡ (layout_of v.file v.number).end)
render_ends v job table shaders handles layout tiles h grid set =
    let numbers = layout_numbers v.file v.number layout h.layout_is in
    let bin : is_some tiles ≡ has_bin v.file v.number = ap is_some grid ∙ grid_some v.file v.number in
    let frame = ap (λ x. render_length x.frame (is_some tiles)) h.job_is ∙ ap (render_length (job_of v.file v.number).frame) bin in
    (ap (λ n. layout.render + n) (frame ∙ sym (room_is (job_of v.file v.number).frame (has_bin v.file v.number) set)) ∙ numbers.2, ap (λ l. l.end) h.layout_is)

-- the renderer list that is written is the file's
text_is : (f : FileModel) (j : ℕ) (frame : Frame) (places : List (Option ℕ)) (tiles : Option (ℕ × ℕ)) (slot : ℕ) → frame ≡ (job_of f j).frame → places ≡ places_in f j → tiles ≡ grid_of f j → slot ≡ slot_of f j
    → render_text frame places tiles slot ≡ render_list_of f j
unfolding render_list_of
text_is f j frame places tiles slot a b g c =
    ap (λ x. render_text x places tiles slot) a
    ∙ ap (λ x. render_text (job_of f j).frame x tiles slot) b
    ∙ ap (λ x. render_text (job_of f j).frame (places_in f j) x slot) g
    ∙ ap (render_text (job_of f j).frame (places_in f j) (grid_of f j)) c

pub list_is : (v : InView) (job : JobModel) (table : TableModel) (shaders : List (Option ShaderModel)) (handles : List ℕ) (layout : Layout) (places : List (Option ℕ)) (tiles : Option (ℕ × ℕ)) → IsContext v job table shaders handles layout
    → places ≡ places_in v.file v.number → tiles ≡ grid_of v.file v.number → render_text job.frame places tiles layout.slot ≡ render_list_of v.file v.number
list_is v job table shaders handles layout places tiles h same grid =
    let numbers = layout_numbers v.file v.number layout h.layout_is in
    text_is v.file v.number job.frame places tiles layout.slot (ap (λ x. x.frame) h.job_is) same grid numbers.1

pub list_length : (f : FileModel) (j : ℕ) (places : List (Option ℕ)) → places ≡ places_in f j → IsSetupFor (job_of f j).frame places
    → (layout_of f j).render + length (render_list_of f j) ≡ (layout_of f j).end
list_length f j places same setup =
    let apart = layout_apart f j in
    let text = ap length (sym (text_is f j (job_of f j).frame places (grid_of f j) (slot_of f j) refl same refl refl)) ∙ length_render (job_of f j).frame places (grid_of f j) (slot_of f j) setup.present setup.tiles in
    let room = room_is (job_of f j).frame (has_bin f j) setup.tiles in
    omega (arith, text, ap (render_length (job_of f j).frame) (grid_some f j), room, apart.last)

-- what the check of a binner list tells is what is reported of the job's
bin_questions_are : (v : InView) (job : JobModel) (table : TableModel) (shaders : List (Option ShaderModel)) (handles : List ℕ) (layout : Layout) → IsContext v job table shaders handles layout
    → bin_questions job.bin job.declared table handles ≡ bin_questions (job_of v.file v.number).bin (job_of v.file v.number).declared (table_of v.file) (job_of v.file v.number).handles
bin_questions_are v job table shaders handles layout h =
    ap (λ t. bin_questions job.bin job.declared t handles) h.table_is
    ∙ ap (bin_questions job.bin job.declared (table_of v.file)) h.handles_are
    ∙ ap (λ x. bin_questions x.bin x.declared (table_of v.file) x.handles) h.job_is

bin_stage_is : (f : FileModel) (j : ℕ) → has_bin f j ≡ true
    → bin_stage f j ≡ with_answers (bin_refused j) (bin_questions (job_of f j).bin (job_of f j).declared (table_of f) (job_of f j).handles)
unfolding bin_stage
bin_stage_is f j some = ap (λ b. if b then with_answers (bin_refused j) (bin_questions (job_of f j).bin (job_of f j).declared (table_of f) (job_of f j).handles) else []) some

pub bin_none : (v : InView) (job : JobModel) (table : TableModel) (shaders : List (Option ShaderModel)) (handles : List ℕ) (layout : Layout) → IsContext v job table shaders handles layout
    → has_bin v.file v.number ≡ true → first_of (bin_questions job.bin job.declared table handles) ≡ None → first_of (bin_stage v.file v.number) ≡ None
bin_none v job table shaders handles layout h some none =
    let same = bin_questions_are v job table shaders handles layout h in
    ap first_of (bin_stage_is v.file v.number some)
    ∙ answered_none (bin_refused v.number) (bin_questions (job_of v.file v.number).bin (job_of v.file v.number).declared (table_of v.file) (job_of v.file v.number).handles) (sym (ap first_of same) ∙ none)

pub bin_text_is : (v : InView) (job : JobModel) (table : TableModel) (shaders : List (Option ShaderModel)) (handles : List ℕ) (layout : Layout) → IsContext v job table shaders handles layout
    → has_bin v.file v.number ≡ true → bin_text job.bin job.declared table handles layout ≡ bin_list_of v.file v.number
unfolding bin_list_of
bin_text_is v job table shaders handles layout h some =
    ap (λ t. bin_text job.bin job.declared t handles layout) h.table_is
    ∙ ap (λ x. bin_text job.bin job.declared (table_of v.file) x layout) h.handles_are
    ∙ ap (λ x. bin_text x.bin x.declared (table_of v.file) x.handles layout) h.job_is
    ∙ ap (bin_text (job_of v.file v.number).bin (job_of v.file v.number).declared (table_of v.file) (job_of v.file v.number).handles) h.layout_is
    ∙ sym (ap (λ b. if b then bin_text (job_of v.file v.number).bin (job_of v.file v.number).declared (table_of v.file) (job_of v.file v.number).handles (layout_of v.file v.number) else []) some)

grid_is : (f : FileModel) (j : ℕ) → has_bin f j ≡ true → Some (grid_from (seen_before (packets_passed (job_of f j).bin))) ≡ grid_of f j
unfolding grid_of
grid_is f j some = sym (ap (λ b. if b then Some (grid_from (seen_before (packets_passed (job_of f j).bin))) else None) some)

pub bin_reported : (v : InView) (job : JobModel) (table : TableModel) (shaders : List (Option ShaderModel)) (handles : List ℕ) (layout : Layout) (info : BinInfo) → IsContext v job table shaders handles layout
    → has_bin v.file v.number ≡ true → IsInfo job.bin job.declared table handles layout info → IsBinOf v.file v.number info
unfolding states_in
bin_reported v job table shaders handles layout info h some report =
    let list = ap (λ x. x.bin) h.job_is in
    let x_is = report.tiles_x ∙ ap (λ l. (seen_before (packets_passed l)).tiles_x) list in
    let y_is = report.tiles_y ∙ ap (λ l. (seen_before (packets_passed l)).tiles_y) list in
    record {
      grid = ap (λ n. Some (n, info.tiles_y)) x_is ∙ ap (λ n. Some ((seen_before (packets_passed (job_of v.file v.number).bin)).tiles_x, n)) y_is ∙ grid_is v.file v.number some;
      states = report.states ∙ ap (λ l. states_of (packets l)) list;
      length_is = report.length_is ∙ ap length (bin_text_is v job table shaders handles layout h some);
    }

-- what the rules of records and uniforms take
abbrev input : List State → List ℕ → List ℕ → TableModel → List ℕ → List (Option ShaderModel) → InputModel
input states records uniforms table handles shaders =
    record { states = states; records = records; uniforms = uniforms; table = table; handles = handles; shaders = shaders }

pub input_is : (v : InView) (states : List State) (job : JobModel) (table : TableModel) (shaders : List (Option ShaderModel)) (handles : List ℕ) (layout : Layout) → IsContext v job table shaders handles layout
    → states ≡ states_in v.file v.number → IsReported v
    → record { states = states; records = job.records; uniforms = job.uniforms; table = table; handles = handles; shaders = shaders } ≡ input_for v.file v.number
unfolding input_for
input_is v states job table shaders handles layout h same report =
    let at = job_of v.file v.number in
    ap (λ s. input s job.records job.uniforms table handles shaders) same
    ∙ ap (λ x. input (states_in v.file v.number) x.records x.uniforms table handles shaders) h.job_is
    ∙ ap (λ t. input (states_in v.file v.number) at.records at.uniforms t handles shaders) h.table_is
    ∙ ap (λ l. input (states_in v.file v.number) at.records at.uniforms (table_of v.file) l shaders) (h.handles_are ∙ ap (λ x. x.handles) h.job_is)
    ∙ ap (input (states_in v.file v.number) at.records at.uniforms (table_of v.file) at.handles) (h.shaders_are ∙ report)

records_stage_is : (f : FileModel) (j : ℕ) → has_bin f j ≡ true → records_stage f j ≡ with_answers (record_refused j) (all_questions (input_for f j))
unfolding records_stage
records_stage_is f j some = ap (λ b. if b then with_answers (record_refused j) (all_questions (input_for f j)) else []) some

pub records_none : (f : FileModel) (j : ℕ) → has_bin f j ≡ true → first_of (all_questions (input_for f j)) ≡ None → first_of (records_stage f j) ≡ None
records_none f j some none = ap first_of (records_stage_is f j some) ∙ answered_none (record_refused j) (all_questions (input_for f j)) none

pub records_some : (f : FileModel) (j : ℕ) (fault : RecordFault) → has_bin f j ≡ true → first_of (all_questions (input_for f j)) ≡ Some fault → first_of (records_stage f j) ≡ Some (record_refused j fault)
records_some f j fault some broken = ap first_of (records_stage_is f j some) ∙ answered_some (record_refused j) (all_questions (input_for f j)) fault broken

pub records_are : (f : FileModel) (j : ℕ) → has_bin f j ≡ true → emitted_records (input_for f j) (streams_place (layout_of f j)) ≡ records_of f j
unfolding records_of
records_are f j some = sym (ap (λ b. if b then emitted_records (input_for f j) (streams_place (layout_of f j)) else []) some)

pub streams_are : (f : FileModel) (j : ℕ) → has_bin f j ≡ true → emitted_uniforms (input_for f j) (streams_place (layout_of f j)) ≡ streams_of f j
unfolding streams_of
streams_are f j some = sym (ap (λ b. if b then emitted_uniforms (input_for f j) (streams_place (layout_of f j)) else []) some)

-- what is emitted takes no more bytes than its source
pub records_within : (f : FileModel) (j : ℕ) → has_bin f j ≡ true → first_of (all_questions (input_for f j)) ≡ None → length (records_of f j) ≤ length (job_of f j).records
unfolding input_for
records_within f j some none =
    let input = input_for f j in
    let n = length input.states in
    omega (arith, ap length (records_are f j some), length_records input (streams_place (layout_of f j)) n, offset_le input n, record_end input n none (omega arith))

pub streams_within : (f : FileModel) (j : ℕ) → has_bin f j ≡ true → first_of (all_questions (input_for f j)) ≡ None → length (streams_of f j) ≤ length (job_of f j).uniforms
unfolding input_for
streams_within f j some none =
    let input = input_for f j in
    let n = length input.states in
    omega (arith, ap length (streams_are f j some), length_uniforms input (streams_place (layout_of f j)) n, stream_le input n, uniform_end input n none (omega arith))

-- putting nothing changes nothing
put_nothing : (old : List ℕ) (at : ℕ) → with_bytes old at [] ≡ old
put_nothing old at = ap (λ k. take at old ++ drop k old) (add-zero at) ∙ take-append-drop at old

-- without a binner list no byte of it is put
pub no_bin_list : (f : FileModel) (j : ℕ) → has_bin f j ≡ false → bin_list_of f j ≡ []
unfolding bin_list_of
no_bin_list f j none = rw none refl

pub no_grid : (f : FileModel) (j : ℕ) → has_bin f j ≡ false → None ≡ grid_of f j
unfolding grid_of
no_grid f j none = rw none refl

pub no_records : (f : FileModel) (j : ℕ) → has_bin f j ≡ false → records_of f j ≡ []
unfolding records_of
no_records f j none = rw none refl

pub no_streams : (f : FileModel) (j : ℕ) → has_bin f j ≡ false → streams_of f j ≡ []
unfolding streams_of
no_streams f j none = rw none refl

-- and nothing is asked of it, nor of records and uniforms
pub unbinned_none : (f : FileModel) (j : ℕ) → has_bin f j ≡ false → first_of (surfaces_stage f j) ≡ None → first_of (lists_stages f j) ≡ None
unfolding lists_stages bin_stage records_stage
unbinned_none f j none surfaces = rw none surfaces

pub render_alone : (f : FileModel) (j : ℕ) (out : List ℕ) → has_bin f j ≡ false
    → with_bytes out (layout_of f j).render (render_list_of f j) ≡ parts_placed out (list_parts f j)
unfolding list_parts later_parts
render_alone f j out none =
    let render : List ℕ → List ℕ = λ o. with_bytes o (layout_of f j).render (render_list_of f j) in
    sym (ap (λ text. render (with_bytes (with_bytes (with_bytes out (layout_of f j).bin text) (layout_of f j).records (records_of f j)) (layout_of f j).uniforms (streams_of f j))) (no_bin_list f j none)
    ∙ ap (λ text. render (with_bytes (with_bytes (with_bytes out (layout_of f j).bin []) (layout_of f j).records text) (layout_of f j).uniforms (streams_of f j))) (no_records f j none)
    ∙ ap (λ text. render (with_bytes (with_bytes (with_bytes out (layout_of f j).bin []) (layout_of f j).records []) (layout_of f j).uniforms text)) (no_streams f j none)
    ∙ ap (λ o. render (with_bytes (with_bytes o (layout_of f j).records []) (layout_of f j).uniforms [])) (put_nothing out (layout_of f j).bin)
    ∙ ap (λ o. render (with_bytes o (layout_of f j).uniforms [])) (put_nothing out (layout_of f j).records)
    ∙ ap render (put_nothing out (layout_of f j).uniforms))

-- one after the other the lists are put
pub later_placed : (f : FileModel) (j : ℕ) (out first second : List ℕ)
    → first ≡ with_bytes (with_bytes out (layout_of f j).records (records_of f j)) (layout_of f j).uniforms (streams_of f j)
    → second ≡ with_bytes first (layout_of f j).render (render_list_of f j) → second ≡ parts_placed out (later_parts f j)
unfolding later_parts
later_placed f j out first second a b = b ∙ ap (λ o. with_bytes o (layout_of f j).render (render_list_of f j)) a

pub all_placed : (f : FileModel) (j : ℕ) (out first second : List ℕ)
    → first ≡ with_bytes out (layout_of f j).bin (bin_list_of f j) → second ≡ parts_placed first (later_parts f j) → second ≡ parts_placed out (list_parts f j)
unfolding list_parts
all_placed f j out first second a b = b ∙ ap (λ o. parts_placed o (later_parts f j)) a

-- the lists lie inside the layout
pub parts_fit : (f : FileModel) (j : ℕ) → length (bin_list_of f j) ≤ length (job_of f j).bin → length (records_of f j) ≤ length (job_of f j).records → length (streams_of f j) ≤ length (job_of f j).uniforms
    → (layout_of f j).render + length (render_list_of f j) ≡ (layout_of f j).end → PartsFit (layout_of f j).end (list_parts f j)
unfolding list_parts later_parts
parts_fit f j bin records streams render =
    let apart = layout_apart f j in (
      omega (arith, bin, apart.first, apart.second, apart.third, render),
      (
        omega (arith, records, apart.second, apart.third, render),
        (omega (arith, streams, apart.third, render), (omega (arith, render), tt)),
      ),
    )

abbrev pub lengths : ℕ → ℕ → ℕ → ℕ → Lengths
lengths bin records uniforms render = record { bin = bin; records = records; uniforms = uniforms; render = render }

pub lengths_are : (f : FileModel) (j bin records uniforms render : ℕ) → bin ≡ length (bin_list_of f j) → records ≡ length (records_of f j) → uniforms ≡ length (streams_of f j) → render ≡ length (render_list_of f j)
    → lengths bin records uniforms render ≡ lengths_of f j
unfolding lengths_of
lengths_are f j bin records uniforms render a b d e =
    ap (λ n. lengths n records uniforms render) a
    ∙ ap (λ n. lengths (length (bin_list_of f j)) n uniforms render) b
    ∙ ap (λ n. lengths (length (bin_list_of f j)) (length (records_of f j)) n render) d
    ∙ ap (lengths (length (bin_list_of f j)) (length (records_of f j)) (length (streams_of f j))) e
