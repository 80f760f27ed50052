use Rattle.qpu_isa.proofs.Report.{sums_agree}
use Rattle.qpu_isa.proofs.terms.targets_are_sums.Goals as goal

pub returns : goal.returns
returns c = sums_agree
