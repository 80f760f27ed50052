use Rattle.std.proofs.Common.{◌≡◌, ◌-◌, length}
use Rattle.field_words.specs.Questions.{first_of, each}
use Rattle.job_format.specs.Parts.{parts_view}
use Rattle.job_bound.specs.Back.{job_places}
use Rattle.job_bound.proofs.named.first_place.Given as goal

abbrev pub invariant-loop-number : goal.invariant-loop-number
invariant-loop-number l =
    first_of (each (job_places l.sought (parts_view l.file)) l.number (length (parts_view l.file).jobs - l.number)) ≡ first_of (each (job_places l.sought (parts_view l.file)) 0 (length (parts_view l.file).jobs))
