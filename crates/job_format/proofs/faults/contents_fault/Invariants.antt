-- What is left decides as the whole does, and the contents so far lie in the file.
use Rattle.std.proofs.Common.{◌≡◌, ◌-◌, ◌≤◌, length}
use Rattle.field_words.specs.Questions.{first_of, each}
use Rattle.job_format.specs.{Faults.content_questions, Offsets.content_offset}
use Rattle.job_format.proofs.faults.contents_fault.Given as goal

abbrev pub invariant-loop-b : goal.invariant-loop-b
invariant-loop-b l =
    (first_of (each (content_questions l.bytes) l.b (l.buffers - l.b)) ≡ first_of (each (content_questions l.bytes) 0 l.buffers))
    × ((l.at ≡ content_offset l.bytes l.b) × (l.at ≤ length l.bytes))
