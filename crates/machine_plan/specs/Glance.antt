-- Looks alone: how a unit sees in memory whether it may step. To look is no access.
use Rattle.std.specs.Prelude.{ℕ, List}
use Rattle.machine_plan.specs.Memory.{bytes_at}

-- Looks at memory in turn, which come to an R. A glance reads nothing and changes nothing.
pub data Glance (R : Type 0) : Type 0 where
  Now : R → Glance R
  At : (place len : ℕ) → (List ℕ → Glance R) → Glance R

-- what a glance at this memory comes to
abbrev pub glance_result : {R : Type 0} → Glance R → List ℕ → R
glance_result (Now r) m = r
glance_result (At place len next) m = glance_result (next (bytes_at m place len)) m

-- each look of a glance at this memory meets L
abbrev pub GlancesIn : {R : Type 0} → (ℕ → ℕ → Type 0) → Glance R → List ℕ → Type 0
GlancesIn L (Now r) m = Unit {0}
GlancesIn L (At place len next) m = L place len × GlancesIn L (next (bytes_at m place len)) m
