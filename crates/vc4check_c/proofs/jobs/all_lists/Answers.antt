use Rattle.std.proofs.Common.{slice_set, ap, arith, ◌∙◌}
use Rattle.vc4check_c.specs.Jobs.{all_lists}
use Rattle.vc4check_c.proofs.Report.{none_reported, one_more_reported}
use Rattle.vc4check_c.proofs.jobs.all_lists.Goals as goal

pub loop-job-init : goal.loop-job-init
loop-job-init c = none_reported c.args.layouts.now c.args.lengths.now

pub loop-job-preserved : goal.loop-job-preserved
loop-job-preserved c =
    let layouts = c.args.layouts.now in
    let lengths = c.args.lengths.now in
    let j = c.loop-job.job in
    ap (λ all. slice_set all j c.lists_of.result) c.loop-job.invariant
    ∙ ap (slice_set (all_lists layouts lengths j) j) c.lists_of.ensures
    ∙ one_more_reported layouts lengths j (omega (arith, c.loop-job-test.true, c.requires.few))
