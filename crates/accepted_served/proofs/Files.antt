-- Each job of such a file begins with shaders that are served, and its semaphore is raised as often as it is waited for.
use Rattle.std.proofs.Common.{◌≡◌, ◌≤◌, ◌<◌, ℕ, Bool, true, false, List, [], length, Some, None, if◌then◌else◌, refl, sym, ◌∙◌, ap, subst, arith}
use Rattle.std.specs.Prelude.{is_some}
use Rattle.buffer_table.specs.Table.{TableModel}
use Rattle.relocation.specs.declared.layout.Layout.{Layout}
use Rattle.bin_list.specs.{Packets.packets, Packets.packets_passed, Rules.given_of, Seen.seen_before, States.states_of}
use Rattle.bin_walks.specs.{Draws.IsDrawn, Emission.emission, Emission.config_of, Law.IsWalked, Walks.nothing_kept}
use Rattle.bin_walks.proofs.Law.{emitted_lists_walk_law}
use Rattle.list_law.proofs.Start.{walks_so}
use Rattle.render_list.specs.Text.{render_slots}
use Rattle.job_format.specs.Model.{FileModel}
use Rattle.job_check.specs.Jobs.{job_of, layout_of, has_bin, bin_list_of, places_in, grid_from, grid_of, slot_of}
use Rattle.job_check.specs.{Emit.memory_of, Shaders.table_of}
use Rattle.machine_law.specs.Units.{EachAt}
use Rattle.accepted_law.specs.{Ends.IsShaderOf, Ends.DrawShaders, Parts.BinWalks, Settled.Grounds}
use Rattle.accepted_law.specs.Holdings.{config_for}
use Rattle.promises.specs.Holdings.{plain_of, file_rights, file_starts, start_of}
use Rattle.promises.specs.Finished.{may_wait, waits, job_waits, file_waits}
use Rattle.promises.specs.Steps.{one_if}
use Rattle.accepted_law.proofs.{BinWalking.bins_walk_law, BinWalking.layout_is_low, ByJob.each_from, Holding.bin_is, Tables.buffer_low}
use Rattle.accepted_law.proofs.Joining.{all_ground, job_begins, files_begin_law, has_read_only}
use Rattle.accepted_ends.proofs.{Cut.packets_walk, Shaders.named_off, Files.packets_are}
use Rattle.served_law.specs.{Finish.DrawServed, Finish.JobMayFinish, Raises.waits_in, Raises.raised_by}
use Rattle.served_law.proofs.Finish.{jobs_finish_law}
use Rattle.accepted_served.specs.Law.{FilesFinish}
use Rattle.accepted_served.proofs.{Raised.emission_raises, Waited.render_few}

is_served : (f : FileModel) (j : ℕ) (code : List ℕ) → file_waits f ≡ false → j < length f.jobs → IsShaderOf f j code → may_wait code ≡ false
unfolding file_waits job_waits
is_served f j code none inside is = named_off waits f j code none inside is

draws_served : (f : FileModel) (j : ℕ) (m : List ℕ) (word : ℕ) (packet : List ℕ) → file_waits f ≡ false → j < length f.jobs → DrawShaders f j m word packet → DrawServed (file_rights f) (plain_of f) m j word packet
draws_served f j m word packet none inside draws = record {
  begins = draws.begins;
  fragment = is_served f j draws.begins.fragment.home.code none inside draws.fragment;
  vertex = is_served f j draws.begins.vertex.home.code none inside draws.vertex;
  coordinate = is_served f j draws.begins.coordinate.home.code none inside draws.coordinate;
}

some_raised : (f : FileModel) (j : ℕ) (m : List ℕ) → Grounds f j m → has_bin f j ≡ true → 1 ≤ raised_by 0 (packets (bin_list_of f j))
some_raised f j m grounds has =
    let bin : List ℕ = (job_of f j).bin in
    let declared : ℕ = (job_of f j).declared in
    let table : TableModel = table_of f in
    let handles : List ℕ = (job_of f j).handles in
    let layout : Layout = layout_of f j in
    let list : List (List ℕ) = emission (given_of bin declared table handles) layout [] (packets bin) in
    let it : IsWalked bin declared table handles layout =
    emitted_lists_walk_law bin declared table handles layout grounds.settled.limits.bin grounds.settled.limits.declared (layout_is_low f j m grounds)
    (λ number below. buffer_low f.mem_size f.regions f.buffers grounds.settled.sound number) (grounds.settled.bin has) in
    let config = config_of layout (seen_before (packets_passed bin)).tiles_x (seen_before (packets_passed bin)).tiles_y in
    let cut : packets (bin_list_of f j) ≡ list = ap packets (bin_is f j has ∙ it.text) ∙ packets_walk config (IsDrawn table handles layout (states_of (packets bin))) nothing_kept list it.walks in
    subst (λ (ps : List (List ℕ)). 1 ≤ raised_by 0 ps) (sym cut) (emission_raises bin declared table handles layout (grounds.settled.bin has))

grid_there : (f : FileModel) (j : ℕ) (b : Bool) → has_bin f j ≡ b → is_some (grid_of f j) ≡ b
unfolding grid_of
grid_there f j true has = ap (λ b. is_some (if b then Some (grid_from (seen_before (packets_passed (job_of f j).bin))) else None)) has
grid_there f j false none = ap (λ b. is_some (if b then Some (grid_from (seen_before (packets_passed (job_of f j).bin))) else None)) none

raised_by_bin : (f : FileModel) (j : ℕ) (m : List ℕ) (b : Bool) → Grounds f j m → has_bin f j ≡ b → one_if (is_some (grid_of f j)) ≤ raised_by 0 (packets (bin_list_of f j))
raised_by_bin f j m true grounds has =
    let some = some_raised f j m grounds has in
    let one : one_if (is_some (grid_of f j)) ≡ 1 = ap one_if (grid_there f j true has) in
    omega (arith, some, one)
raised_by_bin f j m false grounds none =
    let zero_is : one_if (is_some (grid_of f j)) ≡ 0 = ap one_if (grid_there f j false none) in
    omega (arith, zero_is)

raised_there : (f : FileModel) (j : ℕ) (m : List ℕ) → Grounds f j m → waits_in (render_slots (job_of f j).frame (places_in f j) (grid_of f j) (slot_of f j)) ≤ raised_by 0 (packets (bin_list_of f j))
raised_there f j m grounds =
    let few = render_few (job_of f j).frame (places_in f j) (grid_of f j) (slot_of f j) in
    let raised = raised_by_bin f j m (has_bin f j) grounds refl in
    omega (arith, few, raised)

may_finish : (f : FileModel) (j : ℕ) → file_waits f ≡ false → j < length f.jobs → Grounds f j (memory_of f) → JobMayFinish (file_rights f) (plain_of f) (memory_of f) j (start_of f j)
unfolding job_begins
may_finish f j none inside grounds =
    let m : List ℕ = memory_of f in
    let bin : BinWalks f j m = bins_walk_law f j m grounds in
    let raised = raised_there f j m grounds in
    let same : raised_by 0 (packets (bin_list_of f j)) ≡ raised_by 0 bin.packets = ap (raised_by 0) (packets_are f j m bin) in
    record {
      begins = job_begins f j grounds;
      served = walks_so (config_for f j) (DrawShaders f j m) (DrawServed (file_rights f) (plain_of f) m j) (λ word packet draws kind. draws_served f j m word packet none inside draws) nothing_kept bin.packets bin.walks;
      raised = omega (arith, raised, same);
    }

all_may : (f : FileModel) → ((j : ℕ) → j < length f.jobs → JobMayFinish (file_rights f) (plain_of f) (memory_of f) j (start_of f j)) → EachAt (JobMayFinish (file_rights f) (plain_of f) (memory_of f)) 0 (file_starts f)
unfolding file_starts
all_may f each = each_from (JobMayFinish (file_rights f) (plain_of f) (memory_of f)) (start_of f) (length f.jobs) 0 (λ j from upto. each j (omega (arith, upto)))

pub files_finish_law : FilesFinish
files_finish_law f well fits none served m agree =
    let grounds = all_ground f well fits none in
    jobs_finish_law (file_rights f) (plain_of f) (memory_of f) m (file_starts f) (files_begin_law f well fits none).0 (has_read_only f m agree)
    (all_may f (λ j inside. may_finish f j served inside (grounds j inside)))
