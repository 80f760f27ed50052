-- No shader without bytes passes.
use Rattle.std.proofs.Common.{◌≡◌, ℕ, ◌≤◌, List, [], ◌∷◌, length, Some, None, arith, refl, sym, ◌∙◌}
use Rattle.field_words.specs.Questions.{each, with_answers}
use Rattle.job_format.specs.declared.rule.Stage.TheVariants.{S}
use Rattle.job_check.specs.Shaders.{code_questions, words_in}
use Rattle.shader_flow.specs.Flow.{checked_of, end_of}
use Rattle.shader_check.specs.Rules.{shader_questions, whole_questions, s1, fault_at}
use Rattle.job_session.specs.{declared.denied.BrokenRule.BrokenRule, Checked.shader_refusal}

abbrev empty_refused : BrokenRule
empty_refused = record { rule = record { stage = S; number = 1 }; offset = 0 }

none_refused : shader_refusal [] ≡ Some empty_refused
unfolding shader_refusal code_questions shader_questions checked_of whole_questions s1 each with_answers fault_at words_in end_of
none_refused = refl

pub shader_some : (bytes : List ℕ) → shader_refusal bytes ≡ None → 1 ≤ length bytes
shader_some [] is = let clash : None ≡ Some empty_refused = sym is ∙ none_refused in let out : ⊥ = cc in absurd out
shader_some (byte ∷ bytes) is = omega arith
