use Rattle.std.proofs.Common.{◌≡◌, ◌≤◌}
use Rattle.job_format.specs.Parts.{parts_view}
use Rattle.promises.specs.Bounded.{job_longest, greatest_below}
use Rattle.job_bound.specs.Bound.{most_program}
use Rattle.job_bound.proofs.named.longest.Given as goal

-- the most steps of the shaders of the jobs before this one
pub record Going (l : goal.Live-loop-number) : Type 0 where
  pub most : l.longest ≡ greatest_below l.number (λ j. job_longest (parts_view l.file) j)
  pub few : l.longest ≤ most_program

abbrev pub invariant-loop-number : goal.invariant-loop-number
invariant-loop-number l = Going l
