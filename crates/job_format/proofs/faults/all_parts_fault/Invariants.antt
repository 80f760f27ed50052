-- What is left decides as the whole does, and the parts so far lie in the file.
use Rattle.std.proofs.Common.{◌≡◌, ◌-◌, ◌≤◌, length}
use Rattle.field_words.specs.Questions.{first_of, each}
use Rattle.job_format.specs.{Faults.parts_questions, Offsets.handles_offset}
use Rattle.job_format.proofs.faults.all_parts_fault.Given as goal

abbrev pub invariant-loop-j : goal.invariant-loop-j
invariant-loop-j l =
    (first_of (each (parts_questions l.bytes) l.j (l.jobs - l.j)) ≡ first_of (each (parts_questions l.bytes) 0 l.jobs))
    × ((l.at ≡ handles_offset l.bytes l.j) × (l.at ≤ length l.bytes))
