-- A driver's job is bounded.
use Rattle.std.proofs.Common.{◌≡◌, ℕ, false, List, [], ◌∷◌, subst, arith, rules}
use Rattle.machine_plan.specs.Regions.{rights_of, HasReadOnly}
use Rattle.job_format.specs.Model.{FileModel}
use Rattle.job_check.specs.Emit.{memory_of}
use Rattle.promises.specs.Holdings.{plain_of, job_rights, file_rights, start_of}
use Rattle.promises.specs.{Bounded.file_loops, Bounded.longest_of, Bounded.job_bound, Days.Day, Drivers.MaySubmit, Drivers.job_in}
use Rattle.accepted_law.proofs.{ByJob.rights_are, Joining.all_ground, Joining.has_read_only, Prepared.prepared_memories_agree_law}
use Rattle.accepted_ends.proofs.Files.{job_short}
use Rattle.ends_law.specs.Ends.{JobShort}
use Rattle.day_ends.specs.Ends.{IsShortNow}
use Rattle.day_ends.proofs.{Alone.short_alone, Days.admitted_jobs_end_law}
use Rattle.driver_law.specs.Ends.{SubmissionsEnd}
use Rattle.driver_law.proofs.Driver.{all_may, may_be_admitted_law}

submitted_short : (d : Day) (f : FileModel) (j : ℕ) → MaySubmit d f j → file_loops f ≡ false → IsShortNow d (longest_of f) (job_bound f j) (job_in f j)
submitted_short d f j may loopless =
    let m : List ℕ = d.state.memory in
    let w : ℕ = longest_of f in
    let n : ℕ = job_bound f j in
    let has : HasReadOnly (file_rights f) (memory_of f) m = has_read_only f m (prepared_memories_agree_law f may.accepted m may.prepared) in
    let grounds = all_ground f may.accepted.well_formed may.accepted.fits may.accepted.none in
    let own : rights_of (file_rights f) j ≡ job_rights f j = rights_are f j may.inside in
    subst (λ r. JobShort (r ∷ []) (λ number. plain_of f j) m w 0 n (start_of f j)) own
    (short_alone (file_rights f) (plain_of f) (memory_of f) m w j n (start_of f j) has (job_short f j loopless may.inside (grounds j may.inside)))

pub submissions_end_law : SubmissionsEnd
submissions_end_law memory happenings f j may submits loopless = search (rules, arith, admitted_jobs_end_law, all_may, may_be_admitted_law, submitted_short)
