-- Each job of such a file begins with short programs, and has its share of the file's steps.
use Rattle.std.proofs.Common.{◌≡◌, ◌≤◌, ◌<◌, ℕ, zero, suc, ◌+◌, ◌-◌, false, List, length, map, sym, ◌∙◌, ap, arith}
use Rattle.std.proofs.lemmas.List.Sums.{sum_by-cons}
use Rattle.std.specs.List.{range_with_len, sum_by}
use Rattle.bin_list.specs.Packets.{packets}
use Rattle.bin_walks.specs.Walks.{nothing_kept}
use Rattle.list_law.proofs.Start.{walks_so}
use Rattle.render_list.specs.Text.{render_slots}
use Rattle.job_format.specs.Model.{FileModel}
use Rattle.job_check.specs.{Emit.memory_of, Jobs.job_of, Jobs.bin_list_of, Jobs.places_in, Jobs.grid_of, Jobs.slot_of}
use Rattle.accepted_law.specs.{Ends.DrawShaders, Parts.BinWalks, Settled.Grounds}
use Rattle.accepted_law.specs.Holdings.{config_for}
use Rattle.promises.specs.Holdings.{plain_of, file_rights, file_starts, start_of}
use Rattle.promises.specs.Bounded.{file_loops, longest_of, job_bound, bound_of}
use Rattle.promises.specs.Steps.{job_steps}
use Rattle.accepted_law.proofs.BinWalking.{bins_walk_law}
use Rattle.accepted_law.proofs.Joining.{all_ground, job_begins, files_begin_law, has_read_only}
use Rattle.ends_law.specs.{Ends.DrawShort, Ends.JobShort, Left.EachWithin}
use Rattle.ends_law.proofs.{Runs.jobs_end_law, Shares.more_within}
use Rattle.accepted_ends.specs.Law.{FilesEndBy}
use Rattle.accepted_ends.proofs.{Cut.packets_walk, Shaders.draws_short}

pub packets_are : (f : FileModel) (j : ℕ) (m : List ℕ) → (bin : BinWalks f j m) → packets (bin_list_of f j) ≡ bin.packets
packets_are f j m bin = ap packets bin.text ∙ packets_walk (config_for f j) (DrawShaders f j m) nothing_kept bin.packets bin.walks

pub job_short : (f : FileModel) (j : ℕ) → file_loops f ≡ false → j < length f.jobs → Grounds f j (memory_of f) → JobShort (file_rights f) (plain_of f) (memory_of f) (longest_of f) j (job_bound f j) (start_of f j)
unfolding job_begins job_bound
job_short f j none inside grounds =
    let m : List ℕ = memory_of f in
    let bin : BinWalks f j m = bins_walk_law f j m grounds in
    let w : ℕ = longest_of f in
    let slots = render_slots (job_of f j).frame (places_in f j) (grid_of f j) (slot_of f j) in
    let same : job_steps w bin.packets slots ≡ job_steps w (packets (bin_list_of f j)) slots = ap (λ ps. job_steps w ps slots) (sym (packets_are f j m bin)) in
    record {
      begins = job_begins f j grounds;
      short = walks_so (config_for f j) (DrawShaders f j m) (DrawShort (file_rights f) (plain_of f) m w j) (λ word packet draws kind. draws_short f j m word packet none inside draws) nothing_kept bin.packets bin.walks;
      within = omega (arith, same);
    }

-- What is true of each item with its number is true of all with their sum.
each_within : {X : Type 0} (P : ℕ → ℕ → X → Type 0) (number : ℕ → ℕ) (item : ℕ → X) (n j : ℕ) → ((k : ℕ) → j ≤ k → k < j + n → P k (number k) (item k))
    → EachWithin P j (sum_by number (range_with_len j n)) (map item (range_with_len j n))
each_within P number item zero j all = tt
each_within P number item (suc n) j all =
    let later : ℕ = sum_by number (range_with_len (j + 1) n) in
    let all_steps : ℕ = sum_by number (range_with_len j (suc n)) in
    let sum_is : all_steps ≡ number j + later = sum_by-cons number j (range_with_len (j + 1) n) in
    let rest = each_within P number item n (j + 1) (λ k from upto. all k (omega (arith, from)) (omega (arith, upto))) in
    (number j, all j (omega arith) (omega arith), omega (arith, sum_is), more_within P (j + 1) later (all_steps - number j) (map item (range_with_len (j + 1) n)) (omega (arith, sum_is)) rest)

all_short : (f : FileModel) → ((j : ℕ) → j < length f.jobs → JobShort (file_rights f) (plain_of f) (memory_of f) (longest_of f) j (job_bound f j) (start_of f j))
    → EachWithin (JobShort (file_rights f) (plain_of f) (memory_of f) (longest_of f)) 0 (bound_of f) (file_starts f)
unfolding bound_of file_starts
all_short f each = each_within (JobShort (file_rights f) (plain_of f) (memory_of f) (longest_of f)) (job_bound f) (start_of f) (length f.jobs) 0 (λ j from upto. each j (omega (arith, upto)))

pub files_end_by_law : FilesEndBy
files_end_by_law f well fits none loopless m agree =
    let grounds = all_ground f well fits none in
    jobs_end_law (file_rights f) (plain_of f) (memory_of f) m (file_starts f) (longest_of f) (bound_of f) (files_begin_law f well fits none).0 (has_read_only f m agree)
    (all_short f (λ j inside. job_short f j loopless inside (grounds j inside)))
