-- What is reported of a file in which no rule is broken under the greatest limit of a memory.
use Rattle.std.proofs.Common.{◌≡◌, ℕ, ◌<◌, ◌≤◌, ◌^◌, List, length, None, ap, sym, subst, arith, ◌∙◌}
use Rattle.std.specs.List.{AllByRecursion}
use Rattle.field_words.specs.Questions.{first_of, with_answers}
use Rattle.field_words.proofs.{Nones.front_none, Nones.rest_none, Questions.passes}
use Rattle.job_format.specs.{Faults.format_questions, File.IsFileOf, Reading.file_at}
use Rattle.relocation.specs.Layout.{region_end}
use Rattle.job_check.specs.{declared.region.Region.Region, Emit.IsInside, Jobs.layouts_of, Region.region_of, Region.IsRegion}
use Rattle.job_check.specs.{Faults.place_stages, Whole.format_refused, Whole.place_questions, Whole.questions_within}
use Rattle.job_check.proofs.Counted.{as_many_layouts, as_many_lengths}
use Rattle.field_words.specs.Words.{IsBytes}
use Rattle.field_words.proofs.Nones.{none_answered}
use Rattle.job_format.proofs.Laws.{none_file}
use Rattle.promises.specs.Prepared.{IsFaultless}
use Rattle.strict_check.specs.Stages.{strict_stages}
use Rattle.accepted_strict.specs.Files.{FileStrict}
use Rattle.vc4check_c.specs.{declared.jobs.JobsAnswer.JobsAnswer, Jobs.accepted_jobs, Places.file_questions, Places.ArePlaced}
use Rattle.vc4check_c.specs.Hardware.{slots_stage, guide_stages, hardware_stages}

-- There are as many layouts as lengths, of at most eight jobs, and the lists take fewer bytes than a word tells.
pub record IsReported (region : Region) : Type 0 where
  pub each : length region.lengths.items ≡ length region.layouts.items
  pub few : length region.layouts.items ≤ 8
  pub small : length region.bytes.items < 2 ^ 32

pub report : (bytes : List ℕ) (region : Region) → IsFileOf bytes (file_at bytes) → IsRegion (file_at bytes) region → IsReported region
report bytes region spelled is =
    let f = file_at bytes in
    let layouts : length region.layouts.items ≡ length f.jobs = ap length is.layouts_are ∙ as_many_layouts f in
    let lengths : length region.lengths.items ≡ length f.jobs = ap length is.lengths_are ∙ as_many_lengths f in
    record {
      each = lengths ∙ sym layouts;
      few = omega (arith, layouts, spelled.well_formed.few_jobs);
      small = omega (arith, ap length is.bytes_are, is.fits, spelled.fits.regions.lists_size);
    }

pub are_placed : (bytes : List ℕ) (region : Region) (answer : JobsAnswer) → first_of (file_questions bytes) ≡ None → IsFileOf bytes (file_at bytes) → IsRegion (file_at bytes) region
    → answer ≡ accepted_jobs (length region.bytes.items) region.layouts.items region.lengths.items → ArePlaced bytes answer
are_placed bytes region answer none spelled is report =
    let f = file_at bytes in
    let fits = is.fits in
    record {
      none_broken = none;
      spelled = spelled;
      inside = omega (arith, fits);
      each_job = subst (AllByRecursion (IsInside (region_end f.regions))) is.layouts_are is.each_job;
      report =
          report
          ∙ ap (λ b. accepted_jobs (length b) region.layouts.items region.lengths.items) is.bytes_are
          ∙ ap (λ l. accepted_jobs (length (region_of f)) l region.lengths.items) is.layouts_are
          ∙ ap (accepted_jobs (length (region_of f)) (layouts_of f)) is.lengths_are;
    }

-- The strict rules are asked behind all others.
pub unstrict_file : (bytes : List ℕ) → first_of (file_questions bytes) ≡ None → first_of (place_questions bytes) ≡ None
unfolding file_questions questions_within
unstrict_file bytes none =
    let format = with_answers format_refused (format_questions bytes) in
    let f = file_at bytes in
    passes format (place_stages f) (front_none format (hardware_stages f) none)
    ∙ front_none (place_stages f) (guide_stages f) (rest_none format (hardware_stages f) none)

-- And none of them is broken, nor any other.
pub faultless_file : (bytes : List ℕ) → IsBytes bytes → first_of (file_questions bytes) ≡ None → IsFaultless (file_at bytes)
unfolding file_questions
faultless_file bytes fits none =
    let format = with_answers format_refused (format_questions bytes) in
    let f = file_at bytes in
    let is = none_file bytes fits (none_answered format_refused (format_questions bytes) (front_none format (hardware_stages f) none)) in
    record { well_formed = is.well_formed; fits = is.fits; none = front_none (place_stages f) (guide_stages f) (rest_none format (hardware_stages f) none) }

pub strict_file : (bytes : List ℕ) → first_of (file_questions bytes) ≡ None → FileStrict (file_at bytes)
unfolding file_questions
strict_file bytes none =
    let format = with_answers format_refused (format_questions bytes) in
    let f = file_at bytes in
    front_none (strict_stages f) (slots_stage f) (rest_none (place_stages f) (guide_stages f) (rest_none format (hardware_stages f) none))
