-- None before.
use Rattle.std.proofs.Common.{◌≡◌, ◌-◌}
use Rattle.field_words.specs.Questions.{first_of, each}
use Rattle.shader_flow.specs.Flow.{checked_of}
use Rattle.shader_notes.specs.Notes.{noted_at}
use Rattle.shader_notes.proofs.check.first_noted.Given as goal

abbrev pub invariant-loop-at : goal.invariant-loop-at
invariant-loop-at l =
    first_of (each (noted_at l.code l.note) l.at (checked_of l.code - l.at)) ≡ first_of (each (noted_at l.code l.note) 0 (checked_of l.code))
