-- The rules are asked by index, and at an index by number.
use Rattle.std.proofs.Common.{◌+◌, ℕ, List, inl, inr, refl, arith}
use Rattle.field_words.specs.Questions.{with_answers}
use Rattle.field_words.proofs.Least.{IsOrder, Rises, pairs, rises_each}
use Rattle.shader_flow.specs.Flow.{checked_of}
use Rattle.strict_rules.specs.{declared.rule.StrictFault.StrictFault, Least.number_of, Least.IsUpTo}
use Rattle.strict_rules.specs.declared.rule.StrictRule.TheVariants.{SetupAtSwitch}
use Rattle.strict_rules.specs.Rules.{strict_at, index_questions, questions_at, strict_questions}

pub order : IsOrder IsUpTo
order = pairs (λ (f : StrictFault). (f.at, number_of f.rule))

index_rises : (code : List ℕ) (i : ℕ) → Rises IsUpTo (strict_at i SetupAtSwitch) (questions_at code i) (strict_at (i + 1) SetupAtSwitch)
unfolding with_answers questions_at index_questions strict_at
index_rises code i = (
  inr (refl, omega arith),
  (
    inr (refl, omega arith),
    (
      inr (refl, omega arith),
      (
        inr (refl, omega arith),
        (
          inr (refl, omega arith),
          (
            inr (refl, omega arith),
            (inr (refl, omega arith), inl (omega arith)),
          ),
        ),
      ),
    ),
  ),
)

pub all_rise : (code : List ℕ) → Rises IsUpTo (strict_at 0 SetupAtSwitch) (strict_questions code) (strict_at (0 + checked_of code) SetupAtSwitch)
unfolding strict_questions
all_rise code = rises_each IsUpTo (questions_at code) (λ k. strict_at k SetupAtSwitch) order (index_rises code) 0 (checked_of code)
