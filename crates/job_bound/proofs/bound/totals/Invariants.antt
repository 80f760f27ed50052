use Rattle.std.proofs.Common.{◌≡◌, ◌≤◌, ◌*◌}
use Rattle.std.specs.List.{range_with_len, sum_by}
use Rattle.job_format.specs.Parts.{parts_view}
use Rattle.list_machine.specs.Lists.{most_items}
use Rattle.promises.specs.Bounded.{job_bound}
use Rattle.job_bound.specs.{Bound.most_job, Items.items_in}
use Rattle.job_bound.proofs.bound.totals.Given as goal

-- the steps and the items of the jobs before this one
pub record Going (l : goal.Live-loop-number) : Type 0 where
  pub steps : l.steps ≡ sum_by (job_bound (parts_view l.file)) (range_with_len 0 l.number)
  pub few_steps : l.steps ≤ most_job * l.number
  pub items : l.items ≡ sum_by (items_in (parts_view l.file)) (range_with_len 0 l.number)
  pub few_items : l.items ≤ most_items * l.number

abbrev pub invariant-loop-number : goal.invariant-loop-number
invariant-loop-number l = Going l
