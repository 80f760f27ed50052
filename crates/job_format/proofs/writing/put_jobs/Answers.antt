-- One more is appended; at the end all are there.
use Rattle.std.proofs.Common.{map, subst}
use Rattle.std.specs.List.{AllByRecursion}
use Rattle.job_format.specs.{Model.job_view, Text.job_text, File.JobEntryFits, File.IsJobWellFormed}
use Rattle.job_format.proofs.Items.{more_viewed, all_taken, all_at}
use Rattle.job_format.proofs.writing.put_jobs.Goals as goal

pub loop-job-preserved : goal.loop-job-preserved
loop-job-preserved c =
    more_viewed job_view job_text JobEntryFits c.args.jobs.now c.loop-job.job-index c.job-item.result c.args.out.now.items c.loop-job.out.items c.put_job.new.out.items c.loop-job-test.true c.job-item.is c.loop-job.invariant c.in_ok-put_job.ensures.text c.in_ok-put_job.ensures.fits

pub put_job-requires : goal.put_job-requires
put_job-requires c = all_at IsJobWellFormed job_view c.args.jobs.now c.loop-job.job-index c.job-item.result c.requires c.loop-job-test.true c.job-item.is

pub returns-clause-fits : goal.returns-clause-fits
returns-clause-fits c = subst (λ xs. AllByRecursion JobEntryFits (map job_view xs)) (all_taken c.args.jobs.now c.loop-job.job-index c.loop-job-test.false) c.loop-job.invariant.1
