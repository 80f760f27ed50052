-- No rule is broken where the lists were made.
use Rattle.job_format.specs.Parts.{parts_view}
use Rattle.job_check.specs.Faults.{table_stage}
use Rattle.job_check.proofs.{Order.table_none, Wants.never_hidden, Wider.wider_none}
use Rattle.job_bound.proofs.bound.find_bound.Goals as goal

pub returns-in_err-bound_with-clause-memory : goal.returns-in_err-bound_with-clause-memory
returns-in_err-bound_with-clause-memory c =
    let f = parts_view c.args.file.now in
    never_hidden (table_stage f) c.from_residual-in_err-bound_with.result (table_none f c.in_ok-region.ensures.answers.0)

pub bound_with-requires-clause-faultless : goal.bound_with-requires-clause-faultless
bound_with-requires-clause-faultless c = record {
  well_formed = c.requires.well_formed;
  fits = c.requires.fits;
  none = wider_none (parts_view c.args.file.now) c.in_ok-region.ensures.answers.0;
}
