-- The first broken rule, as a sentence about the set of all that are broken: it is the least in an order of the answers.
use Rattle.std.specs.Prelude.{◌≡◌, ◌<◌, ◌≤◌, ◌⊎◌, ℕ, true, List, [], ◌∷◌, Result, Ok, Err}
use Rattle.field_words.specs.{Questions.Question, Questions.Ask, declared.stop.Stop.Stop}
use Rattle.field_words.specs.declared.stop.Stop.TheVariants.{Fault, NoMemory}

-- a rule of the list is broken, with this answer
abbrev pub IsBroken : {F : Type 0} → List (Question F) → F → Type 0
IsBroken [] answer = ⊥
IsBroken (Ask broken first ∷ later) answer = ((broken ≡ true) × (first ≡ answer)) ⊎ IsBroken later answer

-- one pair of numbers is not after another: by the first number, and where those are the same by the second
abbrev pub NotAfter : ℕ × ℕ → ℕ × ℕ → Type 0
NotAfter one other = (one.0 < other.0) ⊎ ((one.0 ≡ other.0) × (one.1 ≤ other.1))

-- A rule is broken with this answer, and the answer of every rule that is broken is at or after it.
pub record IsLeast {F : Type 0} (IsUpTo : F → F → Type 0) (questions : List (Question F)) (answer : F) : Type 0 where
  pub broken : IsBroken questions answer
  pub least : (other : F) → IsBroken questions other → IsUpTo answer other

-- A fault that is answered is the least that is broken.
abbrev pub NamesLeast : {X F : Type 0} → (F → F → Type 0) → List (Question F) → Result X (Stop F) → Type 0
NamesLeast IsUpTo questions (Ok made) = Unit {0}
NamesLeast IsUpTo questions (Err (Fault answer)) = IsLeast IsUpTo questions answer
NamesLeast IsUpTo questions (Err NoMemory) = Unit {0}
