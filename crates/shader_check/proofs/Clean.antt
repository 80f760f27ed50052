-- An accepted shader breaks no rule at any checked instruction.
use Rattle.std.proofs.Common.{◌≡◌, ◌<◌, ℕ, false, List, length, None, arith}
use Rattle.field_words.specs.Questions.{first_of, each, with_answers}
use Rattle.field_words.proofs.{Questions.none_broken, Nones.front_none, Nones.each_none, Nones.none_answered}
use Rattle.shader_flow.specs.Flow.{checked_of}
use Rattle.uniform_stream.specs.Rules.{s20, s22, s23}
use Rattle.shader_check.specs.Rules.{s16, s24, index_questions, questions_at, fault_at, whole_questions, shader_questions}

-- none of these rules is broken at the instruction
pub record IsCleanAt (code : List ℕ) (i : ℕ) : Type 0 where
  pub exact : s16 code i ≡ false
  pub one_unit : s20 code i ≡ false
  pub room : s22 code i ≡ false
  pub apart : s23 code i ≡ false
  pub clamped : s24 code i ≡ false

abbrev pub IsClean : List ℕ → Type 0
IsClean code = (i : ℕ) → i < checked_of code → IsCleanAt code i

pub clean : (code : List ℕ) → first_of (shader_questions code) ≡ None → IsClean code
unfolding shader_questions questions_at index_questions
clean code none i inside =
    let all = front_none (each (questions_at code) 0 (checked_of code)) (with_answers (fault_at (length code)) (whole_questions code)) none in
    let here = each_none (questions_at code) 0 (checked_of code) i all (omega arith) (omega (arith, inside)) in
    let rules = none_broken (index_questions code i) (none_answered (fault_at i) (index_questions code i) here) in
    record {
      exact = rules.1.1.1.1.1.1.1.1.1.1.1.1.1.0;
      one_unit = rules.1.1.1.1.1.1.1.1.1.1.1.1.1.1.1.1.1.0;
      room = rules.1.1.1.1.1.1.1.1.1.1.1.1.1.1.1.1.1.1.1.0;
      apart = rules.1.1.1.1.1.1.1.1.1.1.1.1.1.1.1.1.1.1.1.1.0;
      clamped = rules.1.1.1.1.1.1.1.1.1.1.1.1.1.1.1.1.1.1.1.1.1.0;
    }
