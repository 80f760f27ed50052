-- What it is for bytes to be one of some intervals, and to be nobody's to write.
use Rattle.std.specs.Prelude.{◌≡◌, ℕ, ◌⊎◌, List, [], ◌∷◌, ◌<◌, ◌+◌}
use Rattle.machine_plan.specs.Regions.{Interval, Rights, IsOutside}

-- it is one of these intervals
abbrev pub IsOneOf : List Interval → ℕ → ℕ → Type 0
IsOneOf [] place size = ⊥
IsOneOf (one ∷ others) place size = (one ≡ record { place = place; size = size }) ⊎ IsOneOf others place size

-- no job may write any of the n bytes from a place on
abbrev pub IsFixed : List Rights → ℕ → ℕ → Type 0
IsFixed rights place n = (i : ℕ) → i < n → IsOutside rights (place + i)
