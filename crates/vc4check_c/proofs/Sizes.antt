-- What the check of the bytes of a file tells.
use Rattle.std.proofs.Common.{◌≡◌, ℕ, ◌≤◌, List, length, None, ap, subst, sym, arith, ◌∙◌}
use Rattle.job_format.specs.{File.IsFileOf, Reading.file_at}
use Rattle.relocation.specs.{declared.layout.Layout.Layout, declared.layout.Lengths.Lengths}
use Rattle.job_check.specs.{Jobs.layouts_of, Emit.memory_of, Emit.IsEmitted, Emit.IsPlaced, Whole.refusal_of}
use Rattle.job_check.proofs.Counted.{as_many_layouts, as_many_lengths}
use Rattle.vc4check_c.specs.{declared.jobs.JobsAnswer.JobsAnswer, Jobs.IsSound, Jobs.accepted_jobs, Jobs.AreAccepted}

-- What the check of bytes ensures of an accepted file: the file's memory, layouts and lengths.
pub record IsChecked (bytes memory : List ℕ) (layouts : List Layout) (lengths : List Lengths) : Type 0 where
  pub none : refusal_of bytes ≡ None
  pub spelled : IsFileOf bytes (file_at bytes)
  pub emitted : IsEmitted (file_at bytes) memory layouts lengths
  pub placed : IsPlaced memory layouts
  pub size : length memory ≡ (file_at bytes).mem_size

sound : (bytes memory : List ℕ) (layouts : List Layout) (lengths : List Lengths) → IsChecked bytes memory layouts lengths → IsSound bytes
sound bytes memory layouts lengths is = record {
  none_broken = is.none;
  spelled = is.spelled;
  asked = subst (λ m. length m ≡ (file_at bytes).mem_size) is.emitted.memory_is is.size;
  placed = subst (λ l. IsPlaced (memory_of (file_at bytes)) l) is.emitted.layouts_are (subst (λ m. IsPlaced m layouts) is.emitted.memory_is is.placed);
}

-- There are as many lengths as layouts, of at most eight jobs.
pub as_many : (bytes memory : List ℕ) (layouts : List Layout) (lengths : List Lengths) → IsFileOf bytes (file_at bytes) → IsEmitted (file_at bytes) memory layouts lengths
    → (length lengths ≡ length layouts) × (length layouts ≤ 8)
as_many bytes memory layouts lengths spelled emitted =
    let f = file_at bytes in
    let long : length layouts ≡ length f.jobs = ap length emitted.layouts_are ∙ as_many_layouts f in
    let same : length lengths ≡ length f.jobs = ap length emitted.lengths_are ∙ as_many_lengths f in
    (same ∙ sym long, omega (arith, long, spelled.well_formed.few_jobs))

-- What is reported of an accepted file.
pub are_accepted : (bytes memory : List ℕ) (layouts : List Layout) (lengths : List Lengths) (answer : JobsAnswer)
    → IsChecked bytes memory layouts lengths → answer ≡ accepted_jobs (length memory) layouts lengths → AreAccepted bytes answer
are_accepted bytes memory layouts lengths answer is report =
    let f = file_at bytes in record {
      sound = sound bytes memory layouts lengths is;
      report =
          report
          ∙ ap (λ m. accepted_jobs (length m) layouts lengths) is.emitted.memory_is
          ∙ ap (λ l. accepted_jobs (length (memory_of f)) l lengths) is.emitted.layouts_are
          ∙ ap (accepted_jobs (length (memory_of f)) (layouts_of f)) is.emitted.lengths_are;
    }
