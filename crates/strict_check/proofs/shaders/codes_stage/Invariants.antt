use Rattle.std.proofs.Common.{◌≡◌, ◌-◌, length}
use Rattle.field_words.specs.Questions.{first_of, each}
use Rattle.job_format.specs.Parts.{parts_view}
use Rattle.strict_check.specs.{Findings.all_findings, Stages.code_stage}
use Rattle.strict_check.proofs.shaders.codes_stage.Given as goal

-- no rule is broken in a shader before this one
abbrev pub invariant-loop-b : goal.invariant-loop-b
invariant-loop-b l =
    l.findings ≡ all_findings (parts_view l.file)
    → first_of (each (code_stage (parts_view l.file)) l.b (length l.file.buffers.items - l.b)) ≡ first_of (each (code_stage (parts_view l.file)) 0 (length l.file.buffers.items))
