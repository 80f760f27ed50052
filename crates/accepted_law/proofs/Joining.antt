-- From the parts to the whole.
use Rattle.std.proofs.Common.{◌≡◌, inl, inr, ℕ, ◌+◌, ◌<◌, ◌≤◌, List, length, None, refl, arith, [], ◌∷◌, ◌++◌, sym, ap, subst, ◌∙◌, rules}
use Rattle.std.proofs.lemmas.{Bool.cases_lt, List.get_or_past}
use Rattle.field_words.specs.Questions.{first_of}
use Rattle.job_format.specs.{File.IsWellFormed, File.Fits, Model.FileModel}
use Rattle.job_check.specs.Jobs.{layout_of, bin_list_of, render_list_of, no_job, job_of, grid_of, slot_of, places_in}
use Rattle.job_check.specs.{Emit.lengths_of, Emit.memory_of, Faults.place_stages, Shaders.table_of}
use Rattle.machine_plan.specs.Memory.{bytes_at}
use Rattle.machine_plan.specs.Regions.{Inside, Rights, IsOutside, HasReadOnly, Agree, regions_joined}
use Rattle.promises.specs.Holdings.{OfEachJob, lists_of, job_rights, file_rights, start_by, start_of, named_buffers, plain_of, codes_of, slot_in}
use Rattle.promises.specs.Holdings.{fixed_of, file_starts}
use Rattle.promises.specs.Rights.{IsOneOf, IsFixed}
use Rattle.qpu_law.proofs.Reading.{one_inside}
use Rattle.bin_walks.specs.Walks.{nothing_kept}
use Rattle.list_law.proofs.Start.{walks_so}
use Rattle.machine_law.specs.{Begins.TextBegins, Begins.DrawBegins, Begins.JobBegins, Jobs.ArePlain, Units.EachAt}
use Rattle.machine_law.proofs.{Sound.jobs_sound_law, Apart.inside_either}
use Rattle.render_list.specs.Text.{render_slots}
use Rattle.buffer_table.specs.{declared.buffer.Buffer.Buffer, Table.buffer_at, Handles.data_of}
use Rattle.accepted_law.specs.Holdings.{config_for, frame_for}
use Rattle.accepted_law.specs.{Ends.DrawShaders, Settled.Grounds, Texts.BinTextsBegin, Texts.RenderTextsBegin}
use Rattle.accepted_law.specs.{Parts.BinWalks, Parts.RenderWalks, Parts.FilesBegin, Held.ListsAndCodeAreFixed, Whole.FilesSound}
use Rattle.accepted_law.proofs.ByJob.{each_from, rights_are, in_some_job, in_fixed}
use Rattle.accepted_law.proofs.{Settling.files_settle_law, Allocating.files_allocate_law}
use Rattle.accepted_law.proofs.{Grounds.files_ground_law, BinWalking.bins_walk_law, RenderWalking.renders_walk_law}

text_begins : (f : FileModel) (j : ℕ) (m : List ℕ) → Grounds f j m → (place : ℕ) (text : List ℕ) → bytes_at m place (length text) ≡ text → IsOneOf (lists_of f j) place (length text)
    → TextBegins (file_rights f) m j place text
text_begins f j m grounds place text stands one = search (rules, arith, one_inside)

bin_there : (f : FileModel) (j : ℕ) → IsOneOf (lists_of f j) ((layout_of f j).place + (layout_of f j).bin) (length (bin_list_of f j))
unfolding lists_of lengths_of
bin_there f j = inl refl

render_there : (f : FileModel) (j : ℕ) → IsOneOf (lists_of f j) ((layout_of f j).place + (layout_of f j).render) (length (render_list_of f j))
unfolding lists_of lengths_of
render_there f j = inr (inr (inr (inl refl)))

pub bin_texts_begin_law : BinTextsBegin
unfolding start_by lengths_of
bin_texts_begin_law f j m grounds = search (rules, arith, text_begins, bin_there)

pub render_texts_begin_law : RenderTextsBegin
unfolding start_by lengths_of
render_texts_begin_law f j m grounds = search (rules, arith, text_begins, render_there)

-- Behind the last job there are no buffers.
plain_past : (f : FileModel) (j : ℕ) → length f.jobs ≤ j → plain_of f j ≡ []
unfolding plain_of named_buffers job_of
plain_past f j past = ap (λ job. named_buffers (data_of (table_of f) job.handles) f.buffers (length job.handles)) (get_or_past f.jobs j no_job past)

-- Each data buffer of a job is an interval of its region.
plain_there : (f : FileModel) (m : List ℕ) → OfEachJob f (λ j. Grounds f j m) → ArePlain (file_rights f) (plain_of f)
plain_there f m grounds j place size named = search (arith, cases_lt, plain_past)

pub all_ground : (f : FileModel) → IsWellFormed f → Fits f → first_of (place_stages f) ≡ None → OfEachJob f (λ j. Grounds f j (memory_of f))
all_ground f well fits none = files_ground_law f (files_settle_law f well fits none)

unfoldable pub job_begins : (f : FileModel) (j : ℕ) → Grounds f j (memory_of f) → JobBegins (file_rights f) (plain_of f) (memory_of f) j (start_of f j)
job_begins f j grounds =
    let m : List ℕ = memory_of f in
    let bin : BinWalks f j m = bins_walk_law f j m grounds in
    let render : RenderWalks f j = renders_walk_law f j m grounds in
    let bin_begins = bin_texts_begin_law f j m grounds in
    let render_begins = render_texts_begin_law f j m grounds in
    record {
      config = config_for f j;
      frame = frame_for f j;
      allocates = files_allocate_law f j grounds;
      packets = bin.packets;
      bin_walks = walks_so (config_for f j) (DrawShaders f j m) (DrawBegins (file_rights f) (plain_of f) m j) (λ word packet draws kind. draws.begins) nothing_kept bin.packets bin.walks;
      bin_text = subst (TextBegins (file_rights f) m j (start_of f j).bin_place) bin.text bin_begins.0;
      bin_len = bin_begins.1 ∙ ap length bin.text;
      slots = render_slots (job_of f j).frame (places_in f j) (grid_of f j) (slot_of f j);
      render_walks = render.walks;
      render_fits = render.fits;
      render_sets = render.sets;
      render_text = subst (TextBegins (file_rights f) m j (start_of f j).render_place) render.text render_begins.0;
      render_len = render_begins.1 ∙ ap length render.text;
    }

pub files_begin_law : FilesBegin
files_begin_law f well fits none =
    let grounds = all_ground f well fits none in
    (plain_there f (memory_of f) grounds, λ j inside. job_begins f j (grounds j inside))

-- What jobs may reach and none may write lies in the lists and the code of one of them.
read_in_job : (f : FileModel) (j p : ℕ) → j < length f.jobs → Inside (job_rights f j).region p 1 → IsOutside (file_rights f) p → Inside (lists_of f j ++ codes_of f j) p 1
read_in_job f j p inside reached out =
    elim (inside_either (slot_in f j ∷ plain_of f j) (lists_of f j ++ codes_of f j) p 1 reached) [
      | inl written ↦ absurd (out j (subst (λ r. Inside r.writable p 1) (sym (rights_are f j inside)) written))
      | inr read ↦ read
    ]

lists_or_code : (f : FileModel) (p : ℕ) → Inside (regions_joined (file_rights f)) p 1 → IsOutside (file_rights f) p → Inside (fixed_of f) p 1
lists_or_code f p lies out =
    let job = in_some_job f p lies in
    in_fixed f job.number p job.below (read_in_job f job.number p job.below job.lies out)

pub has_read_only : (f : FileModel) (m : List ℕ) → Agree (fixed_of f) (memory_of f) m → HasReadOnly (file_rights f) (memory_of f) m
has_read_only f m agree = search (rules, arith, lists_or_code)

pub all_begin : (f : FileModel) → OfEachJob f (λ j. JobBegins (file_rights f) (plain_of f) (memory_of f) j (start_of f j)) → EachAt (JobBegins (file_rights f) (plain_of f) (memory_of f)) 0 (file_starts f)
unfolding file_starts
all_begin f each = each_from (JobBegins (file_rights f) (plain_of f) (memory_of f)) (start_of f) (length f.jobs) 0 (λ j from upto. each j (omega (arith, upto)))

pub files_sound_law : FilesSound
files_sound_law f well fits none m agree =
    let begins = files_begin_law f well fits none in
    jobs_sound_law (file_rights f) (plain_of f) (memory_of f) m (file_starts f) begins.0 (has_read_only f m agree) (all_begin f begins.1)

fixed_there : (rights : List Rights) (place size at n : ℕ) → place ≡ at → size ≡ n → IsFixed rights at n → IsFixed rights place size
fixed_there rights place size at n place_is size_is fixed = search (rules, arith)

pub lists_and_code_fixed_law : ListsAndCodeAreFixed
lists_and_code_fixed_law f well fits none j inside =
    let grounds = all_ground f well fits none j inside in
    record {
      lists = λ place size one. grounds.lists_fixed place size one;
      code = λ place size code.
          let at : Buffer = buffer_at f.buffers code.number in
          fixed_there (file_rights f) place size at.place at.size code.place_is code.size_is (grounds.code_fixed code.handle code.number code.named);
    }
