-- The job of an accepted submission may run over each memory that is prepared for it.
use Rattle.std.proofs.Common.{◌∙◌, ◌≡◌, ◌==◌, ◌≤◌, ℕ, suc, Bool, true, false, List, [], ◌∷◌, length, map, refl, Some, None, arith, if◌then◌else◌}
use Rattle.std.specs.List.{slice_get, AllByRecursion}
use Rattle.field_words.specs.{Questions.first_of, Sizes.most_code, Words.IsBytes}
use Rattle.field_words.proofs.{Nones.front_none, Nones.rest_none, Questions.passes}
use Rattle.job_format.specs.File.{BufferFits, Fits}
use Rattle.job_check.specs.Faults.{place_stages}
use Rattle.promises.specs.Prepared.{IsFaultless, IsPrepared, MayRunOver}
use Rattle.accepted_law.proofs.ByteTexts.{bytes_none}
use Rattle.accepted_strict.specs.Files.{FileStrict}
use Rattle.strict_check.specs.Stages.{strict_stages}
use Rattle.job_safety.proofs.Prepared.{prepared_jobs_law}
use Rattle.vc4check_c.specs.{declared.submission.GivenBuffer.GivenBuffer, declared.submission.Submission.Submission}
use Rattle.vc4check_c.specs.Submission.{content_in, entry_in, file_of, own_questions, submission_questions, hardware_questions}
use Rattle.vc4check_c.specs.Hardware.{slots_stage, guide_stages, hardware_stages}
use Rattle.vc4check_c.specs.Types.{GivenFits, IsOfTypes}
use Rattle.vc4check_c.proofs.Submissions.{shaders_few, well_formed}

bytes_if : (stands : Bool) (bytes : List ℕ) → IsBytes bytes → IsBytes (if stands then bytes else [])
bytes_if true bytes are = are
bytes_if false bytes are = bytes_none

content_bytes : (given : GivenBuffer) → GivenFits given → IsBytes (content_in given)
unfolding content_in
content_bytes given fits = bytes_if (given.kind == 1) given.content.now fits.content

entry_fits : (given : GivenBuffer) → GivenFits given → length (content_in given) ≤ most_code → BufferFits (entry_in given)
unfolding entry_in
entry_fits given fits few = record { place = fits.address; size = fits.size; client = fits.client; content = omega (arith, few) }

entries_fit : (buffers : List GivenBuffer) → AllByRecursion GivenFits buffers
    → ((b : ℕ) (given : GivenBuffer) → slice_get buffers b ≡ Some given → length (content_in given) ≤ most_code)
    → AllByRecursion BufferFits (map entry_in buffers)
entries_fit [] fit few = tt
entries_fit (given ∷ buffers) fit few = (entry_fits given fit.0 (few 0 given refl), entries_fit buffers fit.1 (λ b. few (suc b)))

contents_fit : (buffers : List GivenBuffer) → AllByRecursion GivenFits buffers → AllByRecursion IsBytes (map content_in buffers)
contents_fit [] fit = tt
contents_fit (given ∷ buffers) fit = (content_bytes given fit.0, contents_fit buffers fit.1)

fits : (s : Submission) → IsOfTypes s → first_of (own_questions s) ≡ None → Fits (file_of s)
unfolding file_of
fits s types none = record {
  version = omega arith;
  mem_size = types.end;
  regions = record { lists_place = types.lists; lists_size = types.lists_size; tile_place = types.slot; tile_slots = omega arith };
  buffers = entries_fit s.buffers.now types.buffers (shaders_few s none);
  contents = contents_fit s.buffers.now types.buffers;
  jobs = (types.job, tt);
}

pub faultless : (s : Submission) → IsOfTypes s → first_of (submission_questions s) ≡ None → IsFaultless (file_of s)
faultless s types none =
    let own = front_none (own_questions s) (place_stages (file_of s)) none in
    record { well_formed = well_formed s own; fits = fits s types own; none = rest_none (own_questions s) (place_stages (file_of s)) none }

pub may_run : (s : Submission) → IsOfTypes s → first_of (submission_questions s) ≡ None → (m : List ℕ) → IsPrepared (file_of s) m → MayRunOver (file_of s) m
may_run s types none m prepared =
    let are = faultless s types none in
    prepared_jobs_law (file_of s) are.well_formed are.fits are.none m prepared

-- The strict rules are asked behind all others.
pub unstrict_none : (s : Submission) → first_of (hardware_questions s) ≡ None → first_of (submission_questions s) ≡ None
unstrict_none s none =
    let f = file_of s in
    passes (own_questions s) (place_stages f) (front_none (own_questions s) (hardware_stages f) none)
    ∙ front_none (place_stages f) (guide_stages f) (rest_none (own_questions s) (hardware_stages f) none)

-- And none of them is broken.
pub strict_none : (s : Submission) → first_of (hardware_questions s) ≡ None → FileStrict (file_of s)
strict_none s none =
    let f = file_of s in
    front_none (strict_stages f) (slots_stage f) (rest_none (place_stages f) (guide_stages f) (rest_none (own_questions s) (hardware_stages f) none))
