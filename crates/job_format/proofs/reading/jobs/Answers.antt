-- The parts of a job end before those of the last do, and so inside the file.
use Rattle.std.proofs.Common.{◌+◌, map, ap, sym, ◌∙◌, arith}
use Rattle.job_format.specs.{Parts.job_parts_view, Reading.job_at, Reading.jobs_at}
use Rattle.job_format.proofs.{Listed.jobs_none, Listed.jobs_more, Listed.one_more_seen, Standing.parts_end}
use Rattle.job_format.proofs.reading.jobs.Goals as goal

pub loop-j-init : goal.loop-j-init
loop-j-init c = (c.requires.here, ap (map job_parts_view) c.new-read.ensures.items ∙ sym (jobs_none c.args.bytes.now))

pub job-requires-clause-inside : goal.job-requires-clause-inside
job-requires-clause-inside c =
    let up = parts_end c.args.bytes.now (c.loop-j.j + 1) c.args.jobs (omega (arith, c.loop-j-test.true)) in
    omega (arith, up, c.requires.whole.end)

pub loop-j-preserved : goal.loop-j-preserved
loop-j-preserved c = (
  c.in_ok-job.ensures.end,
  one_more_seen job_parts_view c.loop-j.read.items c.push.new.self.items c.in_ok-job.job (jobs_at c.args.bytes.now c.loop-j.j) (job_at c.args.bytes.now c.loop-j.j)
      c.in_ok-push.ensures.items c.loop-j.invariant.1 c.in_ok-job.ensures.value
      ∙ sym (jobs_more c.args.bytes.now c.loop-j.j),
)
