-- The units in the order of a script, how many words a step of each gets, and which are favoured.
use Rattle.std.specs.Prelude.{ℕ, ◌-◌, ◌/◌, ◌%◌, ◌==◌, Bool, true, false, if◌then◌else◌, List, [], ◌∷◌, filter, Option, Some, None}
use Rattle.std.specs.List.{range_with_len}
use Rattle.field_words.specs.declared.access.Actor.TheVariants.{Binner as TheBinner, Renderer as TheRenderer, Qpu as TheQpu, Tmu as TheTmu}
use Rattle.field_words.specs.declared.access.Actor.{Actor}
use Rattle.machine.specs.{State.State, Step.is_enabled}
use Rattle.replay.specs.declared.units.UnitKind.TheVariants.{Binner, Renderer, Qpu, Tmu}
use Rattle.replay.specs.declared.units.UnitKind.{UnitKind}

-- binner, renderer, and twelve processors with two TMUs each
abbrev pub unit_count : ℕ
unit_count = 38

-- The binner, the renderer, and then in turn each processor, its TMU 0 and its TMU 1.
unfoldable pub unit_at : ℕ → Actor
unit_at n =
    if n == 0 then TheBinner
    else (if n == 1 then TheRenderer
    else (if n % 3 == 2 then TheQpu ((n - 2) / 3)
    else (if n % 3 == 0 then TheTmu ((n - 2) / 3) 0 else TheTmu ((n - 2) / 3) 1)))

abbrev pub word_count : Actor → ℕ
word_count TheBinner = 1
word_count TheRenderer = 4096
word_count (TheQpu k) = 194
word_count (TheTmu k n) = 512

-- the numbers below n of units that may step, and those of all that may, in that order
abbrev pub enabled_below : State → ℕ → List ℕ
enabled_below s n = filter (λ k. is_enabled s (unit_at k)) (range_with_len 0 n)

abbrev pub enabled_units : State → List ℕ
enabled_units s = enabled_below s unit_count

-- a unit is of this kind
abbrev pub is_of : UnitKind → Actor → Bool
is_of Binner TheBinner = true
is_of Renderer TheRenderer = true
is_of Qpu (TheQpu k) = true
is_of Tmu (TheTmu k n) = true
is_of kind unit = false

-- these, or where there are none, those
abbrev pub units_preferred : (these those : List ℕ) → List ℕ
units_preferred [] those = those
units_preferred (n ∷ these) those = n ∷ these

-- The numbers among which the next unit is picked, of those that may step: where some are of the favoured kind, these alone.
unfoldable pub candidates : Option UnitKind → List ℕ → List ℕ
candidates None units = units
candidates (Some kind) units = units_preferred (filter (λ n. is_of kind (unit_at n)) units) units
