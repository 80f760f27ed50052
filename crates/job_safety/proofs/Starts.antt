-- The beginnings of the lists of all jobs, one after the other.
use Rattle.std.proofs.Common.{◌≡◌, ℕ, zero, suc, ◌+◌, ◌<◌, ◌≤◌, List, [], ◌∷◌, ◌++◌, length, get_or, map, take, refl, add-one, sym, ap, arith, ◌∙◌}
use Rattle.std.proofs.lemmas.List.FromFn.{length-map-range_with_len}
use Rattle.std.specs.List.{range_with_len}
use Rattle.job_format.specs.{File.IsWellFormed, Model.FileModel}
use Rattle.relocation.specs.declared.layout.{Layout.Layout, Lengths.Lengths}
use Rattle.job_check.specs.{declared.check.Checked.Checked, Jobs.layout_of, Jobs.layouts_of}
use Rattle.job_check.specs.Emit.{memory_of, lengths_of, all_lengths_of, IsEmitted}
use Rattle.machine.specs.State.{start_of}
use Rattle.promises.specs.Holdings.{start_by, file_starts}
use Rattle.job_safety.specs.declared.accepting.Accepted.{Accepted}
use Rattle.job_safety.specs.Accepted.{machine_of, starts_by, IsSetUp, IsAccepted}

-- one more
starts_next : (layouts : List Layout) (lengths : List Lengths) (i : ℕ) (no_layout : Layout) (no_lengths : Lengths) → i < length layouts → length lengths ≡ length layouts
    → starts_by (take (suc i) layouts) (take (suc i) lengths)
    ≡ starts_by (take i layouts) (take i lengths) ++ (start_by (get_or layouts i no_layout) (get_or lengths i no_lengths) ∷ [])
unfolding starts_by
starts_next [] lengths i no_layout no_lengths inside same = absurd (omega (arith, inside))
starts_next (first ∷ layouts) [] i no_layout no_lengths inside same = absurd (omega (arith, same))
starts_next (first ∷ layouts) (front ∷ lengths) zero no_layout no_lengths inside same = refl
starts_next (first ∷ layouts) (front ∷ lengths) (suc i) no_layout no_lengths inside same =
    ap (λ starts. start_by first front ∷ starts) (starts_next layouts lengths i no_layout no_lengths (omega (arith, inside)) (omega (arith, same)))

pub starts_more : (layouts : List Layout) (lengths : List Lengths) (i : ℕ) (no_layout : Layout) (no_lengths : Lengths) → i < length layouts → length lengths ≡ length layouts
    → starts_by (take (i + 1) layouts) (take (i + 1) lengths)
    ≡ starts_by (take i layouts) (take i lengths) ++ (start_by (get_or layouts i no_layout) (get_or lengths i no_lengths) ∷ [])
starts_more layouts lengths i no_layout no_lengths inside same =
    ap (λ n. starts_by (take n layouts) (take n lengths)) (add-one i) ∙ starts_next layouts lengths i no_layout no_lengths inside same

-- as many as layouts
pub starts_long : (layouts : List Layout) (lengths : List Lengths) → length lengths ≡ length layouts → length (starts_by layouts lengths) ≡ length layouts
unfolding starts_by
starts_long [] lengths same = refl
starts_long (first ∷ layouts) [] same = absurd (omega (arith, same))
starts_long (first ∷ layouts) (front ∷ lengths) same = ap suc (starts_long layouts lengths (omega (arith, same)))

-- those of the jobs of a file
starts_map : (layouts : ℕ → Layout) (lengths : ℕ → Lengths) (jobs : List ℕ) → starts_by (map layouts jobs) (map lengths jobs) ≡ map (λ j. start_by (layouts j) (lengths j)) jobs
unfolding starts_by
starts_map layouts lengths [] = refl
starts_map layouts lengths (j ∷ jobs) = ap (λ starts. start_by (layouts j) (lengths j) ∷ starts) (starts_map layouts lengths jobs)

pub file_starts_are : (f : FileModel) → starts_by (layouts_of f) (all_lengths_of f) ≡ file_starts f
unfolding layouts_of all_lengths_of file_starts
file_starts_are f = starts_map (layout_of f) (lengths_of f) (range_with_len 0 (length f.jobs))

-- What was checked has as many lengths as layouts, one a job, and so 1 to 8.
pub record AreOfJobs (layouts : List Layout) (lengths : List Lengths) : Type 0 where
  pub as_many : length lengths ≡ length layouts
  pub some : 1 ≤ length layouts
  pub few : length layouts ≤ 8

pub are_of_jobs : (f : FileModel) (memory : List ℕ) (layouts : List Layout) (lengths : List Lengths) → IsWellFormed f → IsEmitted f memory layouts lengths → AreOfJobs layouts lengths
unfolding layouts_of all_lengths_of
are_of_jobs f memory layouts lengths well is =
    let long = ap length is.layouts_are ∙ length-map-range_with_len (layout_of f) 0 (length f.jobs) in
    let same = ap length is.lengths_are ∙ length-map-range_with_len (lengths_of f) 0 (length f.jobs) in
    record { as_many = same ∙ sym long; some = omega (arith, long, well.some_job); few = omega (arith, long, well.few_jobs) }

-- The machine over the emitted memory is the file's.
pub machine_is : (f : FileModel) (memory : List ℕ) (layouts : List Layout) (lengths : List Lengths) → IsEmitted f memory layouts lengths → start_of memory (starts_by layouts lengths) ≡ machine_of f
unfolding machine_of
machine_is f memory layouts lengths is =
    ap (λ m. start_of m (starts_by layouts lengths)) is.memory_is
    ∙ ap (λ ls. start_of (memory_of f) (starts_by ls lengths)) is.layouts_are
    ∙ ap (λ ls. start_of (memory_of f) (starts_by (layouts_of f) ls)) is.lengths_are
    ∙ ap (start_of (memory_of f)) (file_starts_are f)

pub is_accepted : (f : FileModel) (version : ℕ) (checked : Checked) (accepted : Accepted) → version ≡ f.version
    → IsEmitted f checked.memory checked.layouts.items checked.lengths.items → IsSetUp version checked accepted → IsAccepted f accepted
is_accepted f version checked accepted known is set = record {
  version_is = set.version_is ∙ known;
  layouts_are = set.layouts_are ∙ is.layouts_are;
  lengths_are = set.lengths_are ∙ is.lengths_are;
  machine_is = set.machine_is ∙ machine_is f checked.memory checked.layouts.items checked.lengths.items is;
}
