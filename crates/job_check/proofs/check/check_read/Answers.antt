use Rattle.job_format.specs.Parts.{parts_view}
use Rattle.job_check.specs.Faults.{table_stage}
use Rattle.job_check.proofs.{Order.table_none, Wants.never_hidden}
use Rattle.job_check.proofs.check.check_read.Goals as goal

pub returns-in_err-with_memory-clause-memory : goal.returns-in_err-with_memory-clause-memory
returns-in_err-with_memory-clause-memory c =
    let f = parts_view c.args.parts.now in
    never_hidden (table_stage f) _ (table_none f c.in_ok-region.ensures.answers.0)
