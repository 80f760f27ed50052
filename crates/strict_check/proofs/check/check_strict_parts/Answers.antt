-- There is an entry for each buffer.
use Rattle.std.proofs.Common.{length, ap, ◌∙◌}
use Rattle.job_format.specs.Parts.{parts_view}
use Rattle.strict_check.proofs.Named.{findings_count}
use Rattle.strict_check.proofs.check.check_strict_parts.Goals as goal

pub check_strict_findings-requires-clause-many : goal.check_strict_findings-requires-clause-many
check_strict_findings-requires-clause-many c = ap length (c.deref.ensures.value ∙ c.in_ok-findings.ensures) ∙ findings_count (parts_view c.args.file.now)
