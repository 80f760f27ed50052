-- A step of a unit as a plan: what it reads, looks at and writes in turn, and what it comes to.
-- Laws over plans are proved once and serve every unit.
use Rattle.std.specs.Prelude.{◌≡◌, ℕ, List, [], ◌∷◌, ◌++◌, length, Option, Some, None}
use Rattle.field_words.specs.declared.access.Way.TheVariants.{Read, Write, Wild}
use Rattle.field_words.specs.{declared.access.Access.Access, declared.access.Way.Way}
use Rattle.machine_plan.specs.{declared.who.Who.Who, Memory.bytes_at, Memory.bytes_stored}

-- A plan that comes to an R. To look at memory is no access. Where the hardware leaves undefined
-- what happens, the plan ends in an undefined step.
pub data Plan (R : Type 0) : Type 0 where
  Done : R → Plan R
  Wilds : Plan R
  Reads : (place len : ℕ) → (List ℕ → Plan R) → Plan R
  Looks : (place len : ℕ) → (List ℕ → Plan R) → Plan R
  Writes : (place : ℕ) → (bytes : List ℕ) → Plan R → Plan R

-- what a plan did: its accesses in order, the memory after it, and its result, which is missing
-- where it ended undefined
pub record Outcome (R : Type 0) : Type 0 where
  pub accesses : List Access
  pub memory : List ℕ
  pub result : Option R

-- an access of this unit for this job
abbrev pub access : Who → Way → ℕ → ℕ → Access
access who way place len = record { way = way; place = place; len = len; unit = who.unit; job = who.job }

-- the outcome with one more access at its front
abbrev pub after_access : {R : Type 0} → Access → Outcome R → Outcome R
after_access a o = record { accesses = a ∷ o.accesses; memory = o.memory; result = o.result }

-- the plan carried out over a memory
abbrev pub outcome_of : {R : Type 0} → Who → Plan R → List ℕ → Outcome R
outcome_of who (Done r) m = record { accesses = []; memory = m; result = Some r }
outcome_of who Wilds m = record { accesses = access who Wild 0 0 ∷ []; memory = m; result = None }
outcome_of who (Reads place len next) m = after_access (access who Read place len) (outcome_of who (next (bytes_at m place len)) m)
outcome_of who (Looks place len next) m = outcome_of who (next (bytes_at m place len)) m
outcome_of who (Writes place bytes next) m = after_access (access who Write place (length bytes)) (outcome_of who next (bytes_stored m place bytes))

-- Along the plan each look meets L, each access meets G, and at the end P holds of the memory and
-- the result.
abbrev pub Keeps : {R : Type 0} → Who → (ℕ → ℕ → Type 0) → (Access → Type 0) → (List ℕ → R → Type 0) → Plan R → List ℕ → Type 0
Keeps who L G P (Done r) m = P m r
Keeps who L G P Wilds m = G (access who Wild 0 0)
Keeps who L G P (Reads place len next) m = G (access who Read place len) × Keeps who L G P (next (bytes_at m place len)) m
Keeps who L G P (Looks place len next) m = L place len × Keeps who L G P (next (bytes_at m place len)) m
Keeps who L G P (Writes place bytes next) m = G (access who Write place (length bytes)) × Keeps who L G P next (bytes_stored m place bytes)

-- along the plan each look meets L
abbrev pub LooksIn : {R : Type 0} → (ℕ → ℕ → Type 0) → Plan R → List ℕ → Type 0
LooksIn L (Done r) m = Unit {0}
LooksIn L Wilds m = Unit {0}
LooksIn L (Reads place len next) m = LooksIn L (next (bytes_at m place len)) m
LooksIn L (Looks place len next) m = L place len × LooksIn L (next (bytes_at m place len)) m
LooksIn L (Writes place bytes next) m = LooksIn L next (bytes_stored m place bytes)

-- What code that carries out a plan leaves: the accesses behind those already listed, the memory,
-- and the result.
pub record Shows {R : Type 0} (o : Outcome R) (before after : List Access) (memory : List ℕ) (result : Option R) : Type 0 where
  pub accesses : after ≡ before ++ o.accesses
  pub memory_is : memory ≡ o.memory
  pub result_is : result ≡ o.result
