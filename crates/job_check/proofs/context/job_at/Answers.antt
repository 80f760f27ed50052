use Rattle.std.proofs.Common.{refl}
use Rattle.job_format.specs.Parts.{parts_view, job_parts_view}
use Rattle.job_check.proofs.Jobs.{job_is, limits_at}
use Rattle.job_check.proofs.context.job_at.Goals as goal

pub returns : goal.returns
returns c = record {
  value = job_is job_parts_view c.args.file.now.jobs.items (parts_view c.args.file.now) c.args.number c.index.result.now refl c.requires.inside c.index.ensures;
  limits = limits_at c.args.file.now.jobs.items c.args.number c.index.result.now c.requires.well_formed.jobs c.requires.inside c.index.ensures;
}
