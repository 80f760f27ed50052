-- What is left decides as the whole does, and there are the entries so far.
use Rattle.std.proofs.Common.{◌≡◌, ◌-◌, length, map, take}
use Rattle.field_words.specs.Questions.{first_of, each}
use Rattle.vc4check_c.specs.Submission.{entry_in, buffer_questions, entries_questions}
use Rattle.vc4check_c.proofs.submission.entries.Given as goal

abbrev pub invariant-loop-b : goal.invariant-loop-b
invariant-loop-b l =
    (first_of (each (buffer_questions l.buffers) l.b (length l.buffers - l.b)) ≡ first_of (entries_questions l.buffers))
    × (l.entries.items ≡ take l.b (map entry_in l.buffers))
