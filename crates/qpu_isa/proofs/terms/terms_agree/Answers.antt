use Rattle.qpu_isa.proofs.Report.{report_agrees}
use Rattle.qpu_isa.proofs.terms.terms_agree.Goals as goal

pub returns : goal.returns
returns c = report_agrees
