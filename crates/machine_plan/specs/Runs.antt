-- Runs of a machine: a list of events, each a step where its unit may take one.
use Rattle.std.specs.Prelude.{◌≡◌, Bool, IsTrue, List, [], ◌∷◌, ◌++◌}
use Rattle.field_words.specs.declared.access.Access.{Access}

-- what one step gave: its accesses in order, and the next state
pub record Moved (S : Type 0) : Type 0 where
  pub accesses : List Access
  pub state : S

-- each event in turn may step
abbrev pub Allowed : {S E : Type 0} → (S → E → Bool) → (S → E → Moved S) → S → List E → Type 0
Allowed can step s [] = Unit {0}
Allowed can step s (event ∷ events) = IsTrue (can s event) × Allowed can step (step s event).state events

-- the accesses of all steps, joined in order
abbrev pub found_by : {S E : Type 0} → (S → E → Moved S) → S → List E → List Access
found_by step s [] = []
found_by step s (event ∷ events) = (step s event).accesses ++ found_by step (step s event).state events

-- the state after all steps
abbrev pub state_reached : {S E : Type 0} → (S → E → Moved S) → S → List E → S
state_reached step s [] = s
state_reached step s (event ∷ events) = state_reached step (step s event).state events

-- A run from s over these events gives these accesses and ends in t. An event whose unit may not
-- step has no run.
pub record Run {S E : Type 0} (can : S → E → Bool) (step : S → E → Moved S) (s : S) (events : List E) (found : List Access) (t : S) : Type 0 where
  pub allowed : Allowed can step s events
  pub accesses : found ≡ found_by step s events
  pub last : t ≡ state_reached step s events
