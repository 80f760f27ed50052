-- What a plan comes to, whatever it looks at and accesses.
use Rattle.std.proofs.Common.{ℕ, List}
use Rattle.field_words.specs.declared.access.Access.{Access}
use Rattle.machine_plan.specs.{declared.who.Who.Who, Memory.bytes_at, Memory.bytes_stored}
use Rattle.machine_plan.specs.Plan.{Plan, Done, Wilds, Reads, Looks, Writes, Keeps}
use Rattle.machine_plan.specs.World.{plan_mapped}
use Rattle.machine_plan.proofs.{Plans.keeps_weaker, Worlds.keeps_mapped}

abbrev pub AnyLook : ℕ → ℕ → Type 0
AnyLook place len = Unit {0}

abbrev pub AnyAccess : Access → Type 0
AnyAccess a = Unit {0}

-- where it doesn't end in an undefined step, it comes to P
abbrev pub Comes : {R : Type 0} → Who → (R → Type 0) → Plan R → List ℕ → Type 0
Comes who P plan m = Keeps who AnyLook AnyAccess (λ k r. P r) plan m

-- what is kept, and what it comes to
pub keeps_both : {R : Type 0} (who : Who) (L : ℕ → ℕ → Type 0) (G : Access → Type 0) (P Q : R → Type 0) (plan : Plan R) (m : List ℕ)
    → Keeps who L G (λ k r. P r) plan m → Comes who Q plan m → Keeps who L G (λ k r. P r × Q r) plan m
keeps_both who L G P Q (Done r) m first second = (first, second)
keeps_both who L G P Q Wilds m first second = first
keeps_both who L G P Q (Reads p n next) m first second = (first.0, keeps_both who L G P Q (next (bytes_at m p n)) m first.1 second.1)
keeps_both who L G P Q (Looks p n next) m first second = (first.0, keeps_both who L G P Q (next (bytes_at m p n)) m first.1 second.1)
keeps_both who L G P Q (Writes p bs next) m first second = (first.0, keeps_both who L G P Q next (bytes_stored m p bs) first.1 second.1)

-- to what follows from what it comes to, also where that is put into something
pub weaker : {R : Type 0} (who : Who) (P Q : R → Type 0) → ((one : R) → P one → Q one) → (plan : Plan R) (m : List ℕ) → Comes who P plan m → Comes who Q plan m
weaker who P Q goes plan m comes = keeps_weaker who AnyLook AnyLook AnyAccess AnyAccess (λ k one. P one) (λ k one. Q one) (λ p n h. h) (λ a h. h) (λ k one known. goes one known) plan m comes

pub comes_into : {R T : Type 0} (who : Who) (put : R → T) (P : R → Type 0) (Q : T → Type 0) → ((one : R) → P one → Q (put one)) → (plan : Plan R) (m : List ℕ) → Comes who P plan m → Comes who Q (plan_mapped put plan) m
comes_into who put P Q puts plan m comes = keeps_mapped put who AnyLook AnyAccess (λ k next. Q next) plan m (weaker who P (λ one. Q (put one)) puts plan m comes)

-- to what is so of anything that is put there
pub comes_any : {R T : Type 0} (who : Who) (P : T → Type 0) (put : R → T) → ((r : R) → P (put r)) → (plan : Plan R) (m : List ℕ) → Comes who P (plan_mapped put plan) m
comes_any who P put all (Done r) m = all r
comes_any who P put all Wilds m = tt
comes_any who P put all (Reads p n next) m = (tt, comes_any who P put all (next (bytes_at m p n)) m)
comes_any who P put all (Looks p n next) m = (tt, comes_any who P put all (next (bytes_at m p n)) m)
comes_any who P put all (Writes p bs next) m = (tt, comes_any who P put all next (bytes_stored m p bs))
