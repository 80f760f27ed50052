-- What is left decides as the whole does, and the entries so far lie in the file.
use Rattle.std.proofs.Common.{◌≡◌, ◌-◌, ◌≤◌, length}
use Rattle.field_words.specs.Questions.{first_of, each}
use Rattle.job_format.specs.{Faults.buffer_questions, Offsets.entry_offset}
use Rattle.job_format.proofs.faults.buffers_fault.Given as goal

abbrev pub invariant-loop-b : goal.invariant-loop-b
invariant-loop-b l =
    (first_of (each (buffer_questions l.bytes) l.b (l.buffers - l.b)) ≡ first_of (each (buffer_questions l.bytes) 0 l.buffers))
    × (entry_offset l.b ≤ length l.bytes)
