use Rattle.std.proofs.Common.{◌≡◌, ◌≤◌, ◌*◌}
use Rattle.promises.specs.Steps.{steps_before}
use Rattle.job_bound.proofs.programs.program_steps.Given as goal

-- the steps of the instructions so far
pub record Going (l : goal.Live-loop-at) : Type 0 where
  pub sum : l.steps ≡ steps_before l.code l.at
  pub few : l.steps ≤ 2 * l.at

abbrev pub invariant-loop-at : goal.invariant-loop-at
invariant-loop-at l = Going l
