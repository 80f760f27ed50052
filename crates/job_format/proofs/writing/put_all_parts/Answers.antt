-- One more is appended; at the end all are there.
use Rattle.std.proofs.Common.{map, subst}
use Rattle.std.specs.List.{AllByRecursion}
use Rattle.job_format.specs.{Model.job_view, Text.parts_text, File.JobPartsFit}
use Rattle.job_format.proofs.Items.{more_viewed, all_taken}
use Rattle.job_format.proofs.writing.put_all_parts.Goals as goal

pub loop-job-preserved : goal.loop-job-preserved
loop-job-preserved c =
    more_viewed job_view parts_text JobPartsFit c.args.jobs.now c.loop-job.job-index c.job-item.result c.args.out.now.items c.loop-job.out.items c.put_parts.new.out.items c.loop-job-test.true c.job-item.is c.loop-job.invariant c.in_ok-put_parts.ensures.text c.in_ok-put_parts.ensures.fits

pub returns-clause-fits : goal.returns-clause-fits
returns-clause-fits c = subst (λ xs. AllByRecursion JobPartsFit (map job_view xs)) (all_taken c.args.jobs.now c.loop-job.job-index c.loop-job-test.false) c.loop-job.invariant.1
