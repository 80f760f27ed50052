-- Laws on rules that are asked in an order.
use Rattle.std.proofs.Common.{◌≡◌, ℕ, zero, suc, ◌+◌, ◌-◌, ◌<◌, ◌≤◌, true, false, List, [], ◌∷◌, ◌++◌, Some, None, Result, Ok, Err, refl, sym, ap, arith, ◌∙◌}
use Rattle.field_words.specs.Questions.{Question, Ask, first_of, NoneBroken, IsFirst, each, with_answers, Refuses, Answers, NamesFirst}
use Rattle.field_words.specs.{declared.stop.Stop.Stop, declared.stop.Stop.TheVariants.Fault, declared.stop.Stop.TheVariants.NoMemory}

-- Where no rule of the front is broken, the rest decides.
pub passes : {F : Type 0} → (front rest : List (Question F)) → first_of front ≡ None → first_of (front ++ rest) ≡ first_of rest
passes [] rest none = refl
passes (Ask true answer ∷ front) rest none = cc
passes (Ask false answer ∷ front) rest none = passes front rest none

-- Where one of the front is broken, the rest is not asked.
pub stops : {F : Type 0} → (front rest : List (Question F)) (f : F) → first_of front ≡ Some f → first_of (front ++ rest) ≡ Some f
stops [] rest f some = cc
stops (Ask true answer ∷ front) rest f some = some
stops (Ask false answer ∷ front) rest f some = stops front rest f some

-- the list form and the answer of the first agree: none is broken exactly where the answer is None
pub none_broken : {F : Type 0} → (questions : List (Question F)) → first_of questions ≡ None → NoneBroken questions
none_broken [] none = tt
none_broken (Ask true answer ∷ later) none = cc
none_broken (Ask false answer ∷ later) none = (refl, none_broken later none)

pub first_none : {F : Type 0} → (questions : List (Question F)) → NoneBroken questions → first_of questions ≡ None
first_none [] none = refl
first_none (Ask true answer ∷ later) none = cc
first_none (Ask false answer ∷ later) none = first_none later none.1

-- The answer of the first question whose rule is broken is the first that is broken, as a sentence about the
-- whole list.
pub first_is : {F : Type 0} → (questions : List (Question F)) (f : F) → first_of questions ≡ Some f → IsFirst questions f
first_is [] f some = cc
first_is {F} (Ask true answer ∷ later) f some =
    let e : answer ≡ f = cc in
    record { earlier = []; later = later; here = ap (λ a. Ask true a ∷ later) e; before = tt }
first_is (Ask false answer ∷ rest) f some =
    let found = first_is rest f some in
    record {
      earlier = Ask false answer ∷ found.earlier;
      later = found.later;
      here = ap (λ l. Ask false answer ∷ l) found.here;
      before = (refl, found.before);
    }

-- The answer changes with the change of the answers.
pub answered_none : {F G : Type 0} (change : F → G) → (questions : List (Question F)) → first_of questions ≡ None → first_of (with_answers change questions) ≡ None
unfolding with_answers
answered_none change [] none = refl
answered_none change (Ask true answer ∷ later) none = cc
answered_none change (Ask false answer ∷ later) none = answered_none change later none

pub answered_some : {F G : Type 0} (change : F → G) → (questions : List (Question F)) (f : F) → first_of questions ≡ Some f → first_of (with_answers change questions) ≡ Some (change f)
unfolding with_answers
answered_some change [] f some = cc
answered_some change (Ask true answer ∷ later) f some = let e : answer ≡ f = cc in ap (λ a. Some (change a)) e
answered_some change (Ask false answer ∷ later) f some = answered_some change later f some

-- One item of a loop over items: its questions first, and then those of the items after it.
pub each_step : {F : Type 0} (questions : ℕ → List (Question F)) (i n : ℕ) → each questions i (suc n) ≡ questions i ++ each questions (i + 1) n
unfolding each
each_step questions i n = refl

-- The loop over items 0 to n - 1 stands at item k, and no item before k has a fault: the same at k + 1.
pub each_on : {F : Type 0} (questions : ℕ → List (Question F)) (k n : ℕ) → k < n → first_of (questions k) ≡ None
    → first_of (each questions (k + 1) (n - (k + 1))) ≡ first_of (each questions k (n - k))
each_on questions k n below none =
    let e : n - k ≡ suc (n - (k + 1)) = omega arith in
    sym (ap (λ m. first_of (each questions k m)) e
    ∙ ap first_of (each_step questions k (n - (k + 1)))
    ∙ passes (questions k) (each questions (k + 1) (n - (k + 1))) none)

-- where item k has a fault, it is the first of all from k on
pub each_stop : {F : Type 0} (questions : ℕ → List (Question F)) (k n : ℕ) (f : F) → k < n → first_of (questions k) ≡ Some f
    → first_of (each questions k (n - k)) ≡ Some f
each_stop questions k n f below some =
    let e : n - k ≡ suc (n - (k + 1)) = omega arith in
    ap (λ m. first_of (each questions k m)) e
    ∙ ap first_of (each_step questions k (n - (k + 1)))
    ∙ stops (questions k) (each questions (k + 1) (n - (k + 1))) f some

-- no item is left
pub each_end : {F : Type 0} (questions : ℕ → List (Question F)) (k n : ℕ) → n ≤ k → first_of (each questions k (n - k)) ≡ None
unfolding each
each_end questions k n past =
    let e : n - k ≡ zero = omega arith in
    ap (λ m. first_of (each questions k m)) e

-- A front without faults: what answers the rest answers the whole.
pub answers_later : {X F : Type 0} (front rest : List (Question F)) (P : X → Type 0) → (result : Result X (Stop F))
    → first_of front ≡ None → Answers rest P result → Answers (front ++ rest) P result
answers_later front rest P (Ok made) none answers = (passes front rest none ∙ answers.0, answers.1)
answers_later front rest P (Err (Fault f)) none answers = passes front rest none ∙ answers
answers_later front rest P (Err NoMemory) none answers = tt

-- A refusal by the front is a refusal by the whole.
pub refuses_front : {F : Type 0} (front rest : List (Question F)) → (stop : Stop F) → Refuses front stop → Refuses (front ++ rest) stop
refuses_front front rest (Fault f) refuses = stops front rest f refuses
refuses_front front rest NoMemory refuses = tt

-- What answers the first that is broken names it, as a sentence about the whole list.
pub names_first : {X F : Type 0} (questions : List (Question F)) (P : X → Type 0) → (result : Result X (Stop F)) → Answers questions P result → NamesFirst questions result
names_first questions P (Ok made) answers = tt
names_first questions P (Err (Fault f)) answers = first_is questions f answers
names_first questions P (Err NoMemory) answers = tt
