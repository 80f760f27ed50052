-- What the units of the machine owe.
use Rattle.std.specs.Prelude.{ℕ, List}
use Rattle.machine_plan.specs.{Regions.Interval, Regions.Rights, World.Owes}
use Rattle.machine.specs.{State.Units, Step.ready, Step.turn}
use Rattle.machine_law.specs.{Jobs.ArePlain, Jobs.facts_of, Units.UnitsFine}

-- What the units know by these facts.
abbrev pub AreFine : List Rights → (ℕ → List Interval) → List ℕ → Units → Type 0
AreFine rights plains first u = UnitsFine (facts_of rights plains first) u

-- The units of the machine owe what makes runs safe.
abbrev pub UnitsOwe : Type 0
UnitsOwe =
    (rights : List Rights) (plains : ℕ → List Interval) (first : List ℕ) → ArePlain rights plains
    → Owes ready turn rights first (AreFine rights plains first)
