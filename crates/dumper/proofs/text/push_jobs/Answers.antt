use Rattle.std.proofs.Common.{◌++◌, sym, ap, ◌∙◌, add-one, append_assoc, append-nil}
use Rattle.dumper.specs.Text.{job_line, lines_of, jobs_text}
use Rattle.dumper.proofs.text.push_jobs.Goals as goal

pub loop-job-init : goal.loop-job-init
unfolding jobs_text
loop-job-init c = sym (append-nil c.args.out.now.items)

pub loop-job-preserved : goal.loop-job-preserved
unfolding jobs_text
loop-job-preserved c =
    let before = c.args.out.now.items in
    let layouts = c.args.layouts.now in
    let lengths = c.args.lengths.now in
    let j = c.loop-job.job in
    let one = job_line j ++ lines_of layouts lengths j in
    c.in_ok-push_job.ensures
    ∙ ap (λ l. l ++ one) c.loop-job.invariant
    ∙ append_assoc before (jobs_text layouts lengths j) one
    ∙ ap (λ n. before ++ jobs_text layouts lengths n) (sym (add-one j))
