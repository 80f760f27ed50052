-- What code leaves that carries out a plan.
use Rattle.std.specs.Prelude.{ℕ, Bool, if◌then◌else◌, List, Option, Some, None}
use Rattle.arrayvec.specs.ArrayVec.{ArrayVec}
use Rattle.machine_plan.specs.{Plan.Plan, Plan.outcome_of, Plan.Shows, declared.who.Who.Who}
use Rattle.field_words.specs.declared.access.Access.{Access}

-- the result of a step that may be undefined
abbrev pub if_tame : {R : Type 0} → Bool → R → Option R
if_tame tame r = if tame then Some r else None

-- Code has carried out a plan: over this memory, which it left as that; it listed the plan's accesses
-- behind those that were listed before, and came to the plan's result.
abbrev pub Carries : {R : Type 0} → Who → Plan R → (memory left : List ℕ) → (before after : ArrayVec Access) → Option R → Type 0
Carries who plan memory left before after result = Shows (outcome_of who plan memory) before.items after.items left result

-- code has carried out a plan that writes nothing
abbrev pub CarriesOver : {R : Type 0} → Who → Plan R → List ℕ → (before after : ArrayVec Access) → Option R → Type 0
CarriesOver who plan memory before after result = Carries who plan memory memory before after result

-- code has carried out a plan to which memory makes no difference, over any
abbrev pub CarriesAnywhere : {R : Type 0} → Who → Plan R → (before after : ArrayVec Access) → Option R → Type 0
CarriesAnywhere who plan before after result = (memory : List ℕ) → CarriesOver who plan memory before after result
