-- What is left decides as the whole does, and the entries so far lie in the file.
use Rattle.std.proofs.Common.{◌≡◌, ◌-◌, ◌≤◌, length}
use Rattle.field_words.specs.Questions.{first_of, each}
use Rattle.job_format.specs.{Faults.job_questions, Offsets.job_offset}
use Rattle.job_format.proofs.faults.jobs_fault.Given as goal

abbrev pub invariant-loop-j : goal.invariant-loop-j
invariant-loop-j l =
    (first_of (each (job_questions l.bytes) l.j (l.jobs - l.j)) ≡ first_of (each (job_questions l.bytes) 0 l.jobs))
    × (job_offset l.bytes l.j ≤ length l.bytes)
