use Rattle.std.proofs.Common.{◌≡◌, ◌-◌, length}
use Rattle.field_words.specs.Questions.{first_of, each}
use Rattle.job_format.specs.Parts.{parts_view}
use Rattle.job_check.specs.Jobs.{job_of}
use Rattle.job_bound.specs.Back.{handle_places}
use Rattle.job_bound.proofs.named.job_place.Given as goal

abbrev pub invariant-loop-i : goal.invariant-loop-i
invariant-loop-i l =
    first_of (each (handle_places l.sought (parts_view l.file) l.number) l.i (length (job_of (parts_view l.file) l.number).handles - l.i))
    ≡ first_of (each (handle_places l.sought (parts_view l.file) l.number) 0 (length (job_of (parts_view l.file) l.number).handles))
