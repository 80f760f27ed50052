-- How many steps are left for the primitive in work.
use Rattle.std.specs.Prelude.{ℕ, Option, Some, None}
use Rattle.list_machine.specs.declared.state.Work.{Work}
use Rattle.promises.specs.Steps.{work_steps}

abbrev pub work_left : ℕ → Option Work → ℕ
work_left w None = 0
work_left w (Some k) = work_steps w k
