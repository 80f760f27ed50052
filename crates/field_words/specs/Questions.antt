-- Rules asked in the order of refusal. A question says whether its rule is broken, and what is
-- answered where it is the first that does.
use Rattle.std.specs.Prelude.{◌≡◌, ℕ, zero, suc, ◌+◌, Bool, true, false, List, [], ◌∷◌, ◌++◌, Option, Some, None, Result, Ok, Err, if◌then◌else◌}
use Rattle.field_words.specs.{declared.stop.Stop.Stop, declared.stop.Stop.TheVariants.Fault, declared.stop.Stop.TheVariants.NoMemory}

pub data Question (F : Type 0) : Type 0 where
  Ask : Bool → F → Question F

-- the answer of the first question whose rule is broken
abbrev pub first_of : {F : Type 0} → List (Question F) → Option F
first_of [] = None
first_of (Ask broken answer ∷ later) = if broken then Some answer else first_of later

-- no rule is broken
abbrev pub NoneBroken : {F : Type 0} → List (Question F) → Type 0
NoneBroken [] = Unit {0}
NoneBroken (Ask broken answer ∷ later) = (broken ≡ false) × NoneBroken later

-- As a sentence about the whole list: the answer is that of a question whose rule is broken,
-- and none before it is.
pub record IsFirst {F : Type 0} (questions : List (Question F)) (answer : F) : Type 0 where
  pub earlier : List (Question F)
  pub later : List (Question F)
  pub here : questions ≡ earlier ++ (Ask true answer ∷ later)
  pub before : NoneBroken earlier

-- the questions of items i, i + 1 and so on, n items
unfoldable pub each : {F : Type 0} → (ℕ → List (Question F)) → ℕ → ℕ → List (Question F)
each questions i zero = []
each questions i (suc n) = questions i ++ each questions (i + 1) n

-- these rules with other answers
unfoldable pub with_answers : {F G : Type 0} → (F → G) → List (Question F) → List (Question G)
with_answers change [] = []
with_answers change (Ask broken answer ∷ later) = Ask broken (change answer) ∷ with_answers change later

-- Ok comes only where no rule is broken, with P of what was made; what Err holds is the first that is broken
abbrev pub GoesOn : {X F : Type 0} → List (Question F) → (X → Type 0) → Result X F → Type 0
GoesOn questions P (Ok made) = (first_of questions ≡ None) × P made
GoesOn questions P (Err answer) = first_of questions ≡ Some answer

-- a fault is the first that is broken; want of memory says nothing
abbrev pub Refuses : {F : Type 0} → List (Question F) → Stop F → Type 0
Refuses questions (Fault answer) = first_of questions ≡ Some answer
Refuses questions NoMemory = Unit {0}

-- GoesOn of a call that memory may fail
abbrev pub Answers : {X F : Type 0} → List (Question F) → (X → Type 0) → Result X (Stop F) → Type 0
Answers questions P (Ok made) = (first_of questions ≡ None) × P made
Answers questions P (Err stop) = Refuses questions stop

-- A fault that is answered is the first that is broken, as a sentence about the whole list.
abbrev pub NamesFirst : {X F : Type 0} → List (Question F) → Result X (Stop F) → Type 0
NamesFirst questions (Ok made) = Unit {0}
NamesFirst questions (Err (Fault answer)) = IsFirst questions answer
NamesFirst questions (Err NoMemory) = Unit {0}

-- A fault is never answered as want of memory: that comes only where no rule is broken.
abbrev pub NeverHidesFault : {X F : Type 0} → List (Question F) → Result X (Stop F) → Type 0
NeverHidesFault questions (Ok made) = Unit {0}
NeverHidesFault questions (Err (Fault answer)) = Unit {0}
NeverHidesFault questions (Err NoMemory) = first_of questions ≡ None
