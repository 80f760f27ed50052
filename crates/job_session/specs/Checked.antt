-- The rules of shaders and of jobs in a session: those of the checker of job files.
use Rattle.std.specs.Prelude.{ℕ, ◌*◌, List, Option, Some, None}
use Rattle.field_words.specs.Questions.{first_of, with_answers}
use Rattle.job_format.specs.{declared.rule.Refusal.Refusal, declared.rule.Stage.TheVariants.S, Places.offset_of}
use Rattle.shader_check.specs.declared.fault.ShaderFault.{ShaderFault}
use Rattle.job_check.specs.{Shaders.code_questions, Whole.refusal_of}
use Rattle.job_session.specs.{declared.denied.BrokenRule.BrokenRule, Own.Rules, Submit.file_of}

-- a shader's fault stands at the byte of its instruction
abbrev pub at_instruction : ShaderFault → BrokenRule
at_instruction fault = record { rule = record { stage = S; number = fault.number }; offset = 8 * fault.index }

unfoldable pub shader_refusal : List ℕ → Option BrokenRule
shader_refusal bytes = first_of (with_answers at_instruction (code_questions bytes))

-- the first rule that a file breaks, at the offset of its place
abbrev pub rule_in : List ℕ → Refusal → BrokenRule
rule_in bytes refusal = record { rule = refusal.rule; offset = offset_of bytes refusal.place }

abbrev pub rule_option : List ℕ → Option Refusal → Option BrokenRule
rule_option bytes None = None
rule_option bytes (Some refusal) = Some (rule_in bytes refusal)

unfoldable pub file_refusal : List ℕ → Option BrokenRule
file_refusal bytes = rule_option bytes (refusal_of bytes)

-- a job is refused by the first rule that its client's file breaks
abbrev pub session_rules : Rules BrokenRule
session_rules = record { code = shader_refusal; job = λ client own parts. file_refusal (file_of client own parts) }
