use Rattle.std.proofs.Common.{◌≡◌, ◌-◌}
use Rattle.field_words.specs.Questions.{first_of, each}
use Rattle.shader_flow.specs.Flow.{end_of}
use Rattle.job_bound.specs.Back.{branch_question}
use Rattle.job_bound.proofs.back.first_back.Given as goal

abbrev pub invariant-loop-at : goal.invariant-loop-at
invariant-loop-at l =
    first_of (each (branch_question l.code l.place) l.at (end_of l.code - l.at)) ≡ first_of (each (branch_question l.code l.place) 0 (end_of l.code))
