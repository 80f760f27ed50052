-- Each job of a file that breaks no strict rule begins with strict shaders, as each program is that of a Code buffer of the file.
use Rattle.std.proofs.Common.{◌≡◌, ◌<◌, ℕ, false, List, length, None, sym, subst, arith}
use Rattle.field_words.specs.Questions.{first_of, each}
use Rattle.field_words.proofs.Nones.{front_none, each_none, none_answered}
use Rattle.buffer_table.specs.{declared.buffer.Kind.Kind, Table.buffer_at}
use Rattle.buffer_table.proofs.Named.{code_is}
use Rattle.job_format.specs.Model.{FileModel}
use Rattle.job_check.specs.{Emit.memory_of, Jobs.job_of, Shaders.content_of, Shaders.table_of}
use Rattle.bin_walks.specs.Walks.{nothing_kept}
use Rattle.list_law.proofs.Start.{walks_so}
use Rattle.machine_law.specs.Units.{EachAt}
use Rattle.accepted_law.specs.{Ends.IsShaderOf, Ends.DrawShaders, Parts.BinWalks, Settled.Grounds}
use Rattle.promises.specs.Holdings.{plain_of, file_rights, file_starts, start_of}
use Rattle.promises.specs.Prepared.{IsFaultless}
use Rattle.accepted_law.specs.Holdings.{config_for}
use Rattle.accepted_law.proofs.{BinWalking.bins_walk_law, ByJob.each_from, Joining.all_ground, Joining.job_begins}
use Rattle.strict_check.specs.Stages.{code_refused, code_questions_in, code_stage, codes_stage, job_stages, strict_stages}
use Rattle.strict_law.specs.{Records.selects_missing, Strict.IsStrict, Strict.DrawStrict, Strict.JobStrict}
use Rattle.accepted_strict.specs.Files.{FileStrict}
use Rattle.accepted_strict.proofs.Handles.{records_fit, fragment_off, vertex_off, coordinate_off}
use Rattle.accepted_strict.proofs.Lists.{list_strict, lists_select, walks_both}

-- the shader that a handle names
is_strict : (f : FileModel) (j : ℕ) (code : List ℕ) → FileStrict f → IsShaderOf f j code → IsStrict code
unfolding strict_stages codes_stage code_stage
is_strict f j code strict is =
    let b : ℕ = is.number in
    let of = code_is (table_of f) (job_of f j).handles is.handle b is.named in
    let inside : b < length f.buffers = of.inside in
    let all : first_of (codes_stage f) ≡ None = front_none (codes_stage f) (each (job_stages f) 0 (length f.jobs)) strict in
    let one : first_of (code_stage f b) ≡ None = each_none (code_stage f) 0 (length f.buffers) b all (omega arith) (omega (arith, inside)) in
    let asked : first_of (code_questions_in (buffer_at f.buffers b).kind (content_of f b)) ≡ None =
    none_answered (code_refused b) (code_questions_in (buffer_at f.buffers b).kind (content_of f b)) one in
    subst IsStrict (sym is.is) (subst (λ (kind : Kind). first_of (code_questions_in kind (content_of f b)) ≡ None) of.kind_is asked)

draws_strict : (f : FileModel) (j : ℕ) (m : List ℕ) (word : ℕ) (packet : List ℕ) → j < length f.jobs → FileStrict f → DrawShaders f j m word packet → selects_missing m word ≡ false → DrawStrict (file_rights f) (plain_of f) m j word packet
draws_strict f j m word packet inside strict draws selects =
    let of = draws.handles in
    let fit = records_fit f j of.number strict inside of.inside in
    record {
      begins = draws.begins;
      fragment = is_strict f j draws.begins.fragment.home.code strict draws.fragment;
      vertex = is_strict f j draws.begins.vertex.home.code strict draws.vertex;
      coordinate = is_strict f j draws.begins.coordinate.home.code strict draws.coordinate;
      fragment_part = fragment_off f j draws.vertex.handle draws.coordinate.handle draws.begins.fragment.home.code draws.fragment of fit;
      vertex_part = vertex_off f j draws.fragment.handle draws.coordinate.handle draws.begins.vertex.home.code draws.vertex of fit;
      coordinate_part = coordinate_off f j draws.fragment.handle draws.vertex.handle draws.begins.coordinate.home.code draws.coordinate of fit;
      selects = selects;
    }

pub job_strict : (f : FileModel) (j : ℕ) → j < length f.jobs → FileStrict f → Grounds f j (memory_of f) → JobStrict (file_rights f) (plain_of f) (memory_of f) j (start_of f j)
unfolding job_begins
job_strict f j inside strict grounds =
    let m : List ℕ = memory_of f in
    let bin : BinWalks f j m = bins_walk_law f j m grounds in
    record {
      begins = job_begins f j grounds;
      draws = walks_so (config_for f j) (λ word packet. DrawShaders f j m word packet × (selects_missing m word ≡ false)) (DrawStrict (file_rights f) (plain_of f) m j)
          (λ word packet draws kind. draws_strict f j m word packet inside strict draws.0 draws.1) nothing_kept bin.packets
          (walks_both (config_for f j) (DrawShaders f j m) (λ word packet. selects_missing m word ≡ false) nothing_kept bin.packets bin.walks (lists_select f j m strict grounds bin));
      list = list_strict f j m strict grounds bin;
    }

pub all_strict : (f : FileModel) → IsFaultless f → FileStrict f → EachAt (JobStrict (file_rights f) (plain_of f) (memory_of f)) 0 (file_starts f)
unfolding file_starts
all_strict f file strict =
    each_from (JobStrict (file_rights f) (plain_of f) (memory_of f)) (start_of f) (length f.jobs) 0
    (λ j from upto. job_strict f j (omega (arith, upto)) strict (all_ground f file.well_formed file.fits file.none j (omega (arith, upto))))
