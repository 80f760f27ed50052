use Rattle.std.proofs.Common.{◌≡◌, length, ◌++◌, drop, take, slice_index_or, ap, ◌∙◌}
use Rattle.std.proofs.lemmas.List.{take_at}
use Rattle.job_format.specs.Parts.{parts_view}
use Rattle.replay.specs.declared.logged.Logged.{Logged}
use Rattle.pictures.specs.Counts.{is_of_cell, is_in_cell, cell_counts}
use Rattle.pictures.proofs.Counting.{all_counted, one_counted}
use Rattle.pictures.proofs.counts.cell_counts.Goals as goal

pub loop-logged-preserved : goal.loop-logged-preserved
loop-logged-preserved c =
    let a = c.args in
    let counts = c.loop-logged.counts in
    let new = c.count_cell.new.counts in
    let long : length new ≡ counts.len = c.count_cell.ensures.long ∙ c.deref_mut.ensures.len in
    let same : length new ≡ length counts.items = c.count_cell.ensures.long ∙ ap length c.deref_mut.ensures.value in
    let is : take counts.len (new ++ drop (length new) counts.items) ≡ new = take_at new (drop (length new) counts.items) counts.len long in
    record {
      long = ap length is ∙ (same ∙ c.loop-logged.invariant.long);
      each = λ k below. ap (λ l. slice_index_or l k 0) is
          ∙ one_counted (λ n (logged : Logged). is_in_cell a.file.now a.layouts.now a.way n logged.access) a.accesses.now c.loop-logged.logged-index _
          c.deref_mut.result.now counts.items new 20 c.loop-logged-test.true c.deref_mut.ensures.value c.loop-logged.invariant.long
          c.loop-logged.invariant.each c.count_cell.ensures.each k below;
    }

pub returns-clause-value : goal.returns-clause-value
unfolding cell_counts is_in_cell
returns-clause-value c =
    all_counted (λ k (logged : Logged). is_of_cell (parts_view c.args.file.now) c.args.layouts.now c.args.way k logged.access) c.args.accesses.now
    c.loop-logged.counts.items 20 c.loop-logged.logged-index c.loop-logged.invariant.long c.loop-logged-test.false c.loop-logged.invariant.each
