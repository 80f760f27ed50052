-- What is left decides as the whole does.
use Rattle.std.proofs.Common.{◌≡◌, ◌-◌}
use Rattle.field_words.specs.Questions.{first_of, each}
use Rattle.render_list.specs.Surfaces.{surface_questions}
use Rattle.render_list.proofs.surfaces.check_each.Given as goal

abbrev pub invariant-loop-k : goal.invariant-loop-k
invariant-loop-k l =
    first_of (each (surface_questions l.frame l.table l.handles) l.k (6 - l.k))
    ≡ first_of (each (surface_questions l.frame l.table l.handles) 0 6)
