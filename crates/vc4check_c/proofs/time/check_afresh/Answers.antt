-- The submission is a well-formed file.
use Rattle.std.proofs.Common.{sym, subst}
use Rattle.job_format.specs.File.{IsWellFormed}
use Rattle.vc4check_c.proofs.Submissions.{well_formed}
use Rattle.vc4check_c.proofs.time.check_afresh.Goals as goal

pub check_parts-requires-clause-well_formed : goal.check_parts-requires-clause-well_formed
check_parts-requires-clause-well_formed c = subst IsWellFormed (sym c.requires.parts_are) (well_formed c.args.given.now c.requires.own)
