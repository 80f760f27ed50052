use Rattle.std.proofs.Common.{◌≡◌, ◌-◌, length}
use Rattle.field_words.specs.Questions.{first_of, each}
use Rattle.job_format.specs.Parts.{parts_view}
use Rattle.strict_check.specs.{Findings.all_findings, Stages.job_stages}
use Rattle.strict_check.proofs.check.check_strict_findings.Given as goal

-- no rule is broken in a job before this one
abbrev pub invariant-loop-number : goal.invariant-loop-number
invariant-loop-number l =
    l.findings ≡ all_findings (parts_view l.file)
    → first_of (each (job_stages (parts_view l.file)) l.number (length l.file.jobs.items - l.number)) ≡ first_of (each (job_stages (parts_view l.file)) 0 (length l.file.jobs.items))
