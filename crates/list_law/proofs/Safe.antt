-- Safe accesses, and what is kept along a choice.
use Rattle.std.proofs.Common.{◌≡◌, ℕ, Bool, true, false, List, if◌then◌else◌, arith, rules}
use Rattle.field_words.specs.declared.access.{Access.Access, Way.TheVariants.Write}
use Rattle.machine_plan.specs.{declared.who.Who.Who, Regions.Rights, Regions.IsSafeIn, Plan.Plan, Plan.Keeps, Plan.access}
use Rattle.list_law.specs.May.{MayWrite}

pub write_safe : (r : Rights) (who : Who) (p n : ℕ) → MayWrite r p n → IsSafeIn r (access who Write p n)
write_safe r who p n may = record { tame = λ e. cc; inside = may.region; writes = λ e. may.writable }

-- what is kept along each of two plans is kept along the one that a test chooses
pub keeps_if : {R : Type 0} (who : Who) (L : ℕ → ℕ → Type 0) (G : Access → Type 0) (P : List ℕ → R → Type 0) (m : List ℕ) (b : Bool) (x y : Plan R)
    → (b ≡ true → Keeps who L G P x m) → (b ≡ false → Keeps who L G P y m) → Keeps who L G P (if b then x else y) m
keeps_if who L G P m b x y first second = search (rules, arith)
