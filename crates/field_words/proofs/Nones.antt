-- Where no rule of a list is broken, none of its parts is.
use Rattle.std.proofs.Common.{◌≡◌, ℕ, zero, suc, ◌+◌, ◌<◌, ◌≤◌, true, false, List, [], ◌∷◌, ◌++◌, None, refl, sym, ap, arith, ◌∙◌}
use Rattle.std.proofs.{Common.inl, Common.inr, Math.Nat.eq-or-lt_of_le}
use Rattle.field_words.specs.Questions.{Question, Ask, first_of, each, with_answers}
use Rattle.field_words.proofs.Questions.{passes}

pub front_none : {F : Type 0} → (front rest : List (Question F)) → first_of (front ++ rest) ≡ None → first_of front ≡ None
front_none [] rest none = refl
front_none (Ask true answer ∷ front) rest none = cc
front_none (Ask false answer ∷ front) rest none = front_none front rest none

pub rest_none : {F : Type 0} → (front rest : List (Question F)) → first_of (front ++ rest) ≡ None → first_of rest ≡ None
rest_none front rest none = sym (passes front rest (front_none front rest none)) ∙ none

-- so of each item
pub each_none : {F : Type 0} → (questions : ℕ → List (Question F)) (i n k : ℕ) → first_of (each questions i n) ≡ None → i ≤ k → k < i + n → first_of (questions k) ≡ None
unfolding each
each_none questions i zero k none from below = absurd (omega arith)
each_none questions i (suc n) k none from below =
    elim (eq-or-lt_of_le from) [
      | inl same ↦ ap (λ m. first_of (questions m)) (sym same) ∙ front_none (questions i) (each questions (i + 1) n) none
      | inr later ↦ each_none questions (i + 1) n k (rest_none (questions i) (each questions (i + 1) n) none) (omega arith) (omega arith)
    ]

-- and under other answers
pub none_answered : {F G : Type 0} (change : F → G) → (questions : List (Question F)) → first_of (with_answers change questions) ≡ None → first_of questions ≡ None
unfolding with_answers
none_answered change [] none = refl
none_answered change (Ask true answer ∷ later) none = cc
none_answered change (Ask false answer ∷ later) none = none_answered change later none
