-- A file in which no rule is broken is safe, and what follows of that.
use Rattle.std.proofs.Common.{◌≡◌, ◌≤◌, inl, inr, ℕ, zero, suc, ◌+◌, List, ◌++◌, length, map, refl, sym, arith, None}
use Rattle.field_words.specs.{Words.IsBytes, Questions.first_of, Questions.with_answers}
use Rattle.field_words.proofs.Nones.{front_none, rest_none, none_answered}
use Rattle.job_format.specs.{Model.FileModel, File.IsFileOf, Faults.format_questions, Reading.file_at}
use Rattle.job_format.proofs.{Laws.none_file, Passing.passes_all}
use Rattle.job_check.specs.{Emit.memory_of, Faults.file_stages}
use Rattle.job_check.specs.Whole.{format_refused, all_questions, refusal_of, questions_within}
use Rattle.machine_plan.specs.{Others.Steps, Regions.Inside, Regions.IsOutside, Regions.IsKept}
use Rattle.machine_plan.proofs.Others.{run_others}
use Rattle.machine.specs.{State.units_start, State.start_of, Step.ready, Step.turn}
use Rattle.machine_law.proofs.{Sound.sound_jobs_are_safe_law, Apart.inside_either}
use Rattle.promises.specs.Holdings.{OfEachJob, plain_of, codes_of, lists_of, fixed_below, fixed_of, file_rights, file_starts}
use Rattle.promises.specs.{Prepared.IsFaultless, Bounded.FileEnds, Bounded.AcceptedEnd, Apart.IsApart, Apart.BytesApart, MayRun.MayRun}
use Rattle.promises.specs.{MayRun.AcceptedMayRun}
use Rattle.accepted_law.specs.Held.{AreFixed}
use Rattle.accepted_law.proofs.{Fixed.fixed_byte, Neighbours.accepted_apart_law, Joining.files_sound_law, Joining.lists_and_code_fixed_law}
use Rattle.accepted_ends.proofs.Files.{files_end_by_law}
use Rattle.driver_law.specs.Driver.{FileMayJoin}
use Rattle.driver_law.proofs.Driver.{may_be_admitted_law}
use Rattle.job_safety.specs.Safe.{AreSafe, AreSame}
use Rattle.job_safety.specs.Files.{IsSafeFile, BytesSafe, PlacedJobsAreSafe}
use Rattle.job_safety.specs.Follows.{HasListsAndCode, IsSafeAlone, SafeFilesFollow}
use Rattle.job_check.proofs.Wider.{wider_none}

-- A byte of the lists and the code of the first jobs is one that no job may write.
pub fixed_upto : (f : FileModel) (n p : ℕ) → n ≤ length f.jobs → OfEachJob f (AreFixed f) → Inside (fixed_below f n) p 1 → IsOutside (file_rights f) p
unfolding fixed_below
fixed_upto f zero p upto fixed lies = absurd lies
fixed_upto f (suc n) p upto fixed lies =
    elim (inside_either (fixed_below f n) (lists_of f n ++ codes_of f n) p 1 lies) [
      | inl before ↦ fixed_upto f n p (omega (arith, upto)) fixed before
      | inr here ↦ fixed_byte f n p (fixed n (omega (arith, upto))) here
    ]

kept_has : (f : FileModel) → OfEachJob f (AreFixed f) → (m : List ℕ) → IsKept (file_rights f) (memory_of f) m → HasListsAndCode f m
unfolding fixed_of
kept_has f fixed m kept = record { long = sym kept.long; same = λ p lies. sym (kept.same p (fixed_upto f (length f.jobs) p (omega arith) fixed lies)) }

safe_alone : (f : FileModel) → IsSafeFile f → (m : List ℕ) → HasListsAndCode f m → IsSafeAlone f m
safe_alone f safe m has = sound_jobs_are_safe_law (file_rights f) (plain_of f) m (units_start (file_starts f)) (safe.sound m has)

pub safe_files_follow_law : SafeFilesFollow
safe_files_follow_law f safe = record {
  emitted = safe_alone f safe (memory_of f) (record { long = refl; same = λ p lies. refl });
  whatever_it_holds = λ m kept. safe_alone f safe m (kept_has f safe.fixed m kept);
  anywhere = λ m has. safe_alone f safe m has;
  while_others_write = λ m has happenings found t run left.
      let among = (safe.sound m has).safe.every_run happenings found t run in
      record { accesses = among.accesses; kept = record { long = among.long; same = λ p out. among.kept p out (left p out) } };
  textures = λ m has events found t run. (safe.sound m has).textures (map Steps events) found t (run_others ready turn (file_rights f) (start_of m (file_starts f)) events found t run);
}

-- the rules of the format, and those of the file
parts_none : (bytes : List ℕ) → first_of (all_questions bytes) ≡ None → (first_of (format_questions bytes) ≡ None) × (first_of (file_stages (file_at bytes)) ≡ None)
unfolding questions_within
parts_none bytes none =
    let format = with_answers format_refused (format_questions bytes) in
    (none_answered format_refused (format_questions bytes) (front_none format (file_stages (file_at bytes)) none), rest_none format (file_stages (file_at bytes)) none)

-- A file in which no rule is broken is safe, also where its places are a driver's.
pub placed_safe_law : PlacedJobsAreSafe
placed_safe_law f well_formed fits none = record {
  sound = λ m agree. files_sound_law f well_formed fits none m agree;
  fixed = lists_and_code_fixed_law f well_formed fits none;
}

pub file_is_safe : (bytes : List ℕ) → IsFileOf bytes (file_at bytes) → first_of (all_questions bytes) ≡ None → IsSafeFile (file_at bytes)
file_is_safe bytes is none =
    let f : FileModel = file_at bytes in
    placed_safe_law f is.well_formed is.fits (wider_none f (parts_none bytes none).1)

-- they have a whole header
pub header_there : (bytes : List ℕ) → first_of (all_questions bytes) ≡ None → 8 ≤ length bytes
header_there bytes none = let size = (passes_all bytes (parts_none bytes none).0).header.size in omega (arith, size)

-- bytes in which no rule is broken are a file's
pub bytes_spell : (bytes : List ℕ) → IsBytes bytes → first_of (all_questions bytes) ≡ None → IsFileOf bytes (file_at bytes)
bytes_spell bytes fits none = none_file bytes fits (parts_none bytes none).0

pub bytes_safe_law : BytesSafe
unfolding refusal_of
bytes_safe_law bytes fits none = file_is_safe bytes (bytes_spell bytes fits none) none

-- So each file that is accepted is safe, and does the same over other memories.
pub accepted_is_safe : (bytes : List ℕ) → IsFileOf bytes (file_at bytes) → first_of (all_questions bytes) ≡ None → AreSafe (file_rights (file_at bytes)) (memory_of (file_at bytes)) (file_starts (file_at bytes))
accepted_is_safe bytes is none = (safe_files_follow_law (file_at bytes) (file_is_safe bytes is none)).emitted.0

pub accepted_is_same : (bytes : List ℕ) → IsFileOf bytes (file_at bytes) → first_of (all_questions bytes) ≡ None → AreSame (file_rights (file_at bytes)) (memory_of (file_at bytes)) (file_starts (file_at bytes))
accepted_is_same bytes is none = (safe_files_follow_law (file_at bytes) (file_is_safe bytes is none)).emitted.1

-- And to each client it is the same as every neighbour in which no rule is broken.
pub faultless : (bytes : List ℕ) → IsFileOf bytes (file_at bytes) → first_of (all_questions bytes) ≡ None → IsFaultless (file_at bytes)
faultless bytes is none = record { well_formed = is.well_formed; fits = is.fits; none = wider_none (file_at bytes) (parts_none bytes none).1 }

pub accepted_is_apart : (bytes : List ℕ) → IsFileOf bytes (file_at bytes) → first_of (all_questions bytes) ≡ None → IsApart (file_at bytes)
unfolding refusal_of
accepted_is_apart bytes is none c others are_bytes accepted near =
    accepted_apart_law c (file_at bytes) (file_at others) (faultless bytes is none) (faultless others (bytes_spell others are_bytes accepted) accepted) near

-- Its jobs end, where no shader has a loop.
pub file_ends : (bytes : List ℕ) → IsFileOf bytes (file_at bytes) → first_of (all_questions bytes) ≡ None → FileEnds (file_at bytes)
file_ends bytes is none = files_end_by_law (file_at bytes) is.well_formed is.fits (faultless bytes is none).none

-- And each of its jobs may join live ones.
pub accepted_may_join : (bytes : List ℕ) → IsFileOf bytes (file_at bytes) → first_of (all_questions bytes) ≡ None → FileMayJoin (file_at bytes)
accepted_may_join bytes is none d j inside prepared apart =
    may_be_admitted_law d (file_at bytes) j (record { accepted = faultless bytes is none; inside = inside; prepared = prepared; apart = apart })

-- So the jobs of all bytes in which no rule is broken may run, and end.
pub may_run : (bytes : List ℕ) → IsFileOf bytes (file_at bytes) → refusal_of bytes ≡ None → MayRun bytes
unfolding refusal_of
may_run bytes is none =
    let file : IsSafeFile (file_at bytes) = file_is_safe bytes is none in
    record { none = none; spells = is; sound = file.sound; lists_fixed = λ j inside. (file.fixed j inside).lists; code_fixed = λ j inside. (file.fixed j inside).code }

pub accepted_may_run : AcceptedMayRun
unfolding refusal_of
accepted_may_run bytes fits none = may_run bytes (bytes_spell bytes fits none) none

pub accepted_end : AcceptedEnd
unfolding refusal_of
accepted_end bytes fits none = file_ends bytes (bytes_spell bytes fits none) none

pub bytes_apart_law : BytesApart
unfolding refusal_of
bytes_apart_law bytes fits none = accepted_is_apart bytes (bytes_spell bytes fits none) none
