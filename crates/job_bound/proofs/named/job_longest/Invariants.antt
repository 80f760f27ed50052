use Rattle.std.proofs.Common.{◌≡◌, ◌≤◌}
use Rattle.job_format.specs.Parts.{parts_view}
use Rattle.promises.specs.Bounded.{steps, shader_named, greatest_below}
use Rattle.job_bound.specs.Bound.{most_program}
use Rattle.job_bound.proofs.named.job_longest.Given as goal

-- the most steps of the shaders that the handles before this one name
pub record Going (l : goal.Live-loop-i) : Type 0 where
  pub most : l.longest ≡ greatest_below l.i (λ i. steps (shader_named (parts_view l.file) l.number i))
  pub few : l.longest ≤ most_program

abbrev pub invariant-loop-i : goal.invariant-loop-i
invariant-loop-i l = Going l
