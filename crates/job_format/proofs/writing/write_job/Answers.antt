-- The text spells the file, so it holds it.
use Rattle.job_format.specs.Model.{file_view}
use Rattle.job_format.proofs.Laws.{read_again}
use Rattle.job_format.proofs.writing.write_job.Goals as goal

pub returns-clause-again : goal.returns-clause-again
returns-clause-again c =
    read_again c.in_ok-text.field-0.items (file_view c.args.file.now)
    (record { fits = c.in_ok-text.ensures.fits; well_formed = c.requires; text = c.in_ok-text.ensures.text })
