-- The rules of shaders and of jobs, as a session tells them.
use Rattle.std.proofs.Common.{◌≡◌, ℕ, ◌<◌, List, [], ◌∷◌, length, arith, None, Some}
use Rattle.field_words.specs.Questions.{first_of, with_answers, each}
use Rattle.field_words.proofs.Questions.{answered_none, answered_some}
use Rattle.shader_check.specs.declared.fault.ShaderFault.{ShaderFault}
use Rattle.shader_check.specs.Rules.{shader_questions, whole_questions, s1, fault_at}
use Rattle.shader_flow.specs.Flow.{checked_of, end_of}
use Rattle.job_check.specs.Shaders.{code_questions, words_in}
use Rattle.job_session.specs.Checked.{at_instruction, shader_refusal}

pub passes : (bytes : List ℕ) → first_of (code_questions bytes) ≡ None → shader_refusal bytes ≡ None
unfolding shader_refusal
passes bytes none = answered_none at_instruction (code_questions bytes) none

pub breaks : (bytes : List ℕ) (fault : ShaderFault) → first_of (code_questions bytes) ≡ Some fault → shader_refusal bytes ≡ Some (at_instruction fault)
unfolding shader_refusal
breaks bytes fault some = answered_some at_instruction (code_questions bytes) fault some

pub has_bytes : (bytes : List ℕ) → first_of (code_questions bytes) ≡ None → 0 < length bytes
unfolding code_questions shader_questions whole_questions checked_of end_of s1 fault_at words_in each with_answers
has_bytes [] none = let no : ⊥ = cc in absurd no
has_bytes (byte ∷ bytes) none = omega arith
