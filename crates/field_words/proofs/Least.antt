-- In a list whose answers rise, the first broken rule is the least broken one.
use Rattle.std.proofs.Common.{◌≡◌, ◌≤◌, inl, inr, ℕ, zero, suc, ◌+◌, true, false, List, [], ◌∷◌, ◌++◌, Some, None, Result, Ok, Err, refl, subst, arith}
use Rattle.field_words.specs.{declared.stop.Stop.Stop, declared.stop.Stop.TheVariants.Fault, declared.stop.Stop.TheVariants.NoMemory}
use Rattle.field_words.specs.Questions.{Question, Ask, first_of, each, with_answers, Answers}
use Rattle.field_words.specs.Least.{IsBroken, NotAfter, IsLeast, NamesLeast}

pub record IsOrder {F : Type 0} (IsUpTo : F → F → Type 0) : Type 0 where
  pub same : (a : F) → IsUpTo a a
  pub on : (a b c : F) → IsUpTo a b → IsUpTo b c → IsUpTo a c

pub numbers : IsOrder (λ n m. n ≤ m)
numbers = record { same = λ a. omega arith; on = λ a b c one two. omega arith }

-- by the pair of numbers that each answer has
pub pairs : {F : Type 0} (rank : F → ℕ × ℕ) → IsOrder (λ a b. NotAfter (rank a) (rank b))
pairs rank = record { same = λ a. grind arith; on = λ a b c one two. grind arith }

-- from one answer to another none is before the one that is asked before it
abbrev pub Rises : {F : Type 0} → (F → F → Type 0) → F → List (Question F) → F → Type 0
Rises IsUpTo from [] upto = IsUpTo from upto
Rises IsUpTo from (Ask broken answer ∷ later) upto = IsUpTo from answer × Rises IsUpTo answer later upto

pub wider : {F : Type 0} (R : F → F → Type 0) (low from upto high : F) (questions : List (Question F)) → IsOrder R → R low from → Rises R from questions upto → R upto high
    → Rises R low questions high
wider R low from upto high [] order below rises up = order.on low upto high (order.on low from upto below rises) up
wider R low from upto high (Ask broken answer ∷ later) order below rises up =
    (order.on low from answer below rises.0, wider R answer answer upto high later order (order.same answer) rises.1 up)

above : {F : Type 0} (R : F → F → Type 0) (from upto : F) (questions : List (Question F)) (answer : F) → IsOrder R → Rises R from questions upto
    → IsBroken questions answer → R from answer
above R from upto [] answer order rises none = absurd none
above R from upto (Ask broken first ∷ later) answer order rises (inl here) = subst (λ a. R from a) here.1 rises.0
above R from upto (Ask broken first ∷ later) answer order rises (inr rest) =
    order.on from first answer rises.0 (above R first upto later answer order rises.1 rest)

pub first_broken : {F : Type 0} (questions : List (Question F)) (answer : F) → first_of questions ≡ Some answer → IsBroken questions answer
first_broken [] answer some = cc
first_broken (Ask true first ∷ later) answer some = let e : first ≡ answer = cc in inl (refl, e)
first_broken (Ask false first ∷ later) answer some = inr (first_broken later answer some)

pub nothing_broken : {F : Type 0} (questions : List (Question F)) (answer : F) → first_of questions ≡ None → IsBroken questions answer → ⊥
nothing_broken [] answer none broken = broken
nothing_broken (Ask true first ∷ later) answer none broken = cc
nothing_broken (Ask false first ∷ later) answer none (inl here) = let wrong : false ≡ true = here.0 in cc
nothing_broken (Ask false first ∷ later) answer none (inr rest) = nothing_broken later answer none rest

first_below : {F : Type 0} (R : F → F → Type 0) (from upto : F) (questions : List (Question F)) (answer : F) → IsOrder R → Rises R from questions upto
    → first_of questions ≡ Some answer → (other : F) → IsBroken questions other → R answer other
first_below R from upto [] answer order rises some other broken = absurd broken
first_below R from upto (Ask true first ∷ later) answer order rises some other broken =
    let e : first ≡ answer = cc in
    subst (λ a. R a other) e (above R first upto (Ask true first ∷ later) other order (order.same first, rises.1) broken)
first_below R from upto (Ask false first ∷ later) answer order rises some other (inl here) = let wrong : false ≡ true = here.0 in cc
first_below R from upto (Ask false first ∷ later) answer order rises some other (inr rest) = first_below R first upto later answer order rises.1 some other rest

-- The first of a list that rises is its least.
pub least : {F : Type 0} (R : F → F → Type 0) (from upto : F) (questions : List (Question F)) (answer : F) → IsOrder R → Rises R from questions upto
    → first_of questions ≡ Some answer → IsLeast R questions answer
least R from upto questions answer order rises some =
    record { broken = first_broken questions answer some; least = first_below R from upto questions answer order rises some }

pub names_least : {X F : Type 0} (R : F → F → Type 0) (from upto : F) (questions : List (Question F)) (P : X → Type 0) (result : Result X (Stop F)) → IsOrder R
    → Rises R from questions upto → Answers questions P result → NamesLeast R questions result
names_least R from upto questions P (Ok made) order rises answers = tt
names_least R from upto questions P (Err (Fault f)) order rises answers = least R from upto questions f order rises answers
names_least R from upto questions P (Err NoMemory) order rises answers = tt

-- A front, and a rest that rises from where it ends.
pub rises_append : {F : Type 0} (R : F → F → Type 0) (from mid upto : F) (front rest : List (Question F)) → IsOrder R → Rises R from front mid → Rises R mid rest upto
    → Rises R from (front ++ rest) upto
rises_append R from mid upto [] rest order one two = wider R from mid upto upto rest order one two (order.same upto)
rises_append R from mid upto (Ask broken answer ∷ front) rest order one two = (one.0, rises_append R answer mid upto front rest order one.1 two)

-- Items that rise from bound to bound.
pub rises_each : {F : Type 0} (R : F → F → Type 0) (questions : ℕ → List (Question F)) (bound : ℕ → F) → IsOrder R
    → ((k : ℕ) → Rises R (bound k) (questions k) (bound (k + 1))) → (i n : ℕ) → Rises R (bound i) (each questions i n) (bound (i + n))
unfolding each
rises_each R questions bound order rises i zero = subst (λ k. R (bound i) (bound k)) (let e : i ≡ i + 0 = omega arith in e) (order.same (bound i))
rises_each R questions bound order rises i (suc n) =
    subst (λ k. Rises R (bound i) (each questions i (suc n)) (bound k)) (let e : i + 1 + n ≡ i + suc n = omega arith in e)
    (rises_append R (bound i) (bound (i + 1)) (bound (i + 1 + n)) (questions i) (each questions (i + 1) n) order (rises i)
    (rises_each R questions bound order rises (i + 1) n))

-- Rules with other answers rise in an order that the change keeps.
pub rises_answered : {F G : Type 0} (R : F → F → Type 0) (S : G → G → Type 0) (change : F → G) → ((a b : F) → R a b → S (change a) (change b))
    → (from upto : F) (questions : List (Question F)) → Rises R from questions upto → Rises S (change from) (with_answers change questions) (change upto)
unfolding with_answers
rises_answered R S change keeps from upto [] rises = keeps from upto rises
rises_answered R S change keeps from upto (Ask broken answer ∷ later) rises =
    (keeps from answer rises.0, rises_answered R S change keeps answer upto later rises.1)
