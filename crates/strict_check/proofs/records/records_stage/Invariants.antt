use Rattle.std.proofs.Common.{◌≡◌, length}
use Rattle.job_format.specs.Parts.{parts_view}
use Rattle.strict_check.specs.Findings.{all_findings}
use Rattle.strict_check.proofs.Going.{IsUnderway}
use Rattle.strict_check.proofs.records.records_stage.Given as goal

abbrev pub invariant-loop-rest : goal.invariant-loop-rest
invariant-loop-rest l = IsUnderway (l.findings ≡ all_findings (parts_view l.file)) (parts_view l.file) l.number l.rest l.at

abbrev pub decreases-loop-rest : goal.decreases-loop-rest
decreases-loop-rest l = length l.rest
