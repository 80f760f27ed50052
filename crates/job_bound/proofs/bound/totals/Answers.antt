-- The steps and the items of one job more.
use Rattle.std.proofs.{Common.◌≡◌, Common.length, Common.ap, Common.arith, Common.◌∙◌, lemmas.List.length-map}
use Rattle.std.specs.List.{range_with_len, sum_by}
use Rattle.job_format.specs.Parts.{parts_view, job_parts_view}
use Rattle.promises.specs.Bounded.{job_bound, bound_of}
use Rattle.job_bound.specs.Items.{items_in, items_of}
use Rattle.job_bound.proofs.Items.{sum_more}
use Rattle.job_bound.proofs.bound.totals.Goals as goal

pub loop-number-preserved : goal.loop-number-preserved
loop-number-preserved c =
    let f = parts_view c.args.file.now in
    let l = c.loop-number in
    let more_steps = sum_more (job_bound f) l.number in
    let more_items = sum_more (items_in f) l.number in
    record {
      steps = omega (arith, l.invariant.steps, c.job_bound-steps.ensures.value, more_steps);
      few_steps = omega (arith, l.invariant.few_steps, c.job_bound-steps.ensures.limit);
      items = omega (arith, l.invariant.items, c.items_in-items.ensures.value, more_items);
      few_items = omega (arith, l.invariant.few_items, c.items_in-items.ensures.few);
    }

pub returns-clause-steps : goal.returns-clause-steps
unfolding bound_of
returns-clause-steps c =
    let f = parts_view c.args.file.now in
    let l = c.loop-number in
    let end : l.number ≡ length f.jobs = omega (arith, c.len-number-end.ensures, length-map c.args.file.now.jobs.items job_parts_view, c.loop-number-test.false, l.auto.number-end) in
    l.invariant.steps ∙ ap (λ n. sum_by (job_bound f) (range_with_len 0 n)) end

pub returns-clause-items : goal.returns-clause-items
unfolding items_of
returns-clause-items c =
    let f = parts_view c.args.file.now in
    let l = c.loop-number in
    let end : l.number ≡ length f.jobs = omega (arith, c.len-number-end.ensures, length-map c.args.file.now.jobs.items job_parts_view, c.loop-number-test.false, l.auto.number-end) in
    l.invariant.items ∙ ap (λ n. sum_by (items_in f) (range_with_len 0 n)) end
