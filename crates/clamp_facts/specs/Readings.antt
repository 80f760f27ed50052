-- What a fact says.
use Rattle.std.specs.Prelude.{ℕ, ◌==◌, Bool, true, false, Option, None, Some}
use Rattle.clamp_facts.specs.{declared.fact.Fact.TheVariants.Immediate, declared.fact.Fact.TheVariants.NotNegative, declared.fact.Fact.TheVariants.Clamped, declared.fact.Fact.Fact}

-- the value that it says
abbrev pub value_in : Fact → Option ℕ
value_in (Immediate value) = Some value
value_in other = None

abbrev pub is_value : Fact → ℕ → Bool
is_value (Immediate held) value = held == value
is_value other value = false

-- the index of the clamp that it says
abbrev pub clamp_in : Fact → Option ℕ
clamp_in (Clamped k at) = Some at
clamp_in other = None

-- the uniform that bounds the register
abbrev pub bound_in : Fact → Option ℕ
bound_in (Clamped k at) = Some k
bound_in other = None

abbrev pub has_bound : Fact → Bool
has_bound (Clamped k at) = true
has_bound other = false

abbrev pub is_from_zero : Fact → Bool
is_from_zero NotNegative = true
is_from_zero other = false
