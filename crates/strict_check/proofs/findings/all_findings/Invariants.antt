use Rattle.std.proofs.Common.{◌≡◌}
use Rattle.job_format.specs.Parts.{parts_view}
use Rattle.strict_check.specs.Findings.{findings_up_to}
use Rattle.strict_check.proofs.findings.all_findings.Given as goal

-- of the buffers before this one
abbrev pub invariant-loop-b : goal.invariant-loop-b
invariant-loop-b l = l.findings.items ≡ findings_up_to (parts_view l.file) l.b
