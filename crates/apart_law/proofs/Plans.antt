-- What a plan comes to, whatever it reads; and turns that come to what is alike.
use Rattle.std.proofs.Common.{◌≡◌, ℕ, false, if◌then◌else◌, List, [], ◌∷◌, length, Option, Some, refl, ◌∙◌, ap, arith, rules}
use Rattle.std.specs.Prelude.{option_map, unwrap_or}
use Rattle.field_words.specs.declared.access.Way.TheVariants.{Read, Write, Wild}
use Rattle.field_words.specs.declared.access.Access.{Access}
use Rattle.machine_plan.specs.Plan.{Plan, Done, Wilds, Reads, Looks, Writes, access, outcome_of, Keeps}
use Rattle.machine_plan.specs.{declared.who.Who.Who, Memory.bytes_at, Memory.bytes_stored, World.plan_mapped, World.world_turned}
use Rattle.machine_plan.specs.Regions.{Interval, Inside, IsIn, Agree}
use Rattle.machine_plan.proofs.Plans.{SameBut, footprint, keeps_looks, keeps_accesses}
use Rattle.machine_plan.proofs.Worlds.{handed, carried_mapped}
use Rattle.machine.specs.State.{Units, State}
use Rattle.apart_law.specs.{Part.UnitsAlike, Steps.GaveAlike}
use Rattle.promises.specs.Trail.{Client, accesses_of}

-- the plan comes to P, if it comes to anything
abbrev pub ComesTo : {R : Type 0} → Who → (R → Type 0) → Plan R → List ℕ → Type 0
ComesTo who P plan m = Keeps who (λ p n. Unit {0}) (λ a. Unit {0}) (λ k r. P r) plan m

pub comes_to : {R : Type 0} (who : Who) (P : R → Type 0) (plan : Plan R) (m : List ℕ) (wild : R) → ComesTo who P plan m → P wild → P (unwrap_or (outcome_of who plan m).result wild)
comes_to who P (Done r) m wild h ends = h
comes_to who P Wilds m wild h ends = ends
comes_to who P (Reads p n next) m wild h ends = comes_to who P (next (bytes_at m p n)) m wild h.1 ends
comes_to who P (Looks p n next) m wild h ends = comes_to who P (next (bytes_at m p n)) m wild h.1 ends
comes_to who P (Writes p bs next) m wild h ends = comes_to who P next (bytes_stored m p bs) wild h.1 ends

pub comes_to_any : {R : Type 0} (who : Who) (P : R → Type 0) → ((r : R) → P r) → (plan : Plan R) (m : List ℕ) → ComesTo who P plan m
comes_to_any who P each (Done r) m = each r
comes_to_any who P each Wilds m = tt
comes_to_any who P each (Reads p n next) m = (tt, comes_to_any who P each (next (bytes_at m p n)) m)
comes_to_any who P each (Looks p n next) m = (tt, comes_to_any who P each (next (bytes_at m p n)) m)
comes_to_any who P each (Writes p bs next) m = (tt, comes_to_any who P each next (bytes_stored m p bs))

-- accesses of another client's job
not_reported : (mine : Client) (a : Access) (found : List Access) → mine a.job ≡ false → accesses_of mine (a ∷ found) ≡ accesses_of mine found
not_reported mine a found others = ap (λ b. if b then a ∷ accesses_of mine found else accesses_of mine found) others

pub none_reported : {R : Type 0} (mine : Client) (who : Who) (plan : Plan R) (m : List ℕ) → mine who.job ≡ false → accesses_of mine (outcome_of who plan m).accesses ≡ []
none_reported mine who (Done r) m others = refl
none_reported mine who Wilds m others = not_reported mine (access who Wild 0 0) [] others
none_reported mine who (Reads p n next) m others = not_reported mine (access who Read p n) (outcome_of who (next (bytes_at m p n)) m).accesses others ∙ none_reported mine who (next (bytes_at m p n)) m others
none_reported mine who (Looks p n next) m others = none_reported mine who (next (bytes_at m p n)) m others
none_reported mine who (Writes p bs next) m others = not_reported mine (access who Write p (length bs)) (outcome_of who next (bytes_stored m p bs)).accesses others ∙ none_reported mine who next (bytes_stored m p bs) others

-- a result that is handed on twice
pub mapped_twice : {R S T : Type 0} (put : S → T) (first : R → S) (plan : Plan R) → plan_mapped put (plan_mapped first plan) ≡ plan_mapped (λ r. put (first r)) plan
mapped_twice put first (Done r) = refl
mapped_twice put first Wilds = refl
mapped_twice put first (Reads p n next) = λ i. Reads p n (λ bytes. mapped_twice put first (next bytes) i)
mapped_twice put first (Looks p n next) = λ i. Looks p n (λ bytes. mapped_twice put first (next bytes) i)
mapped_twice put first (Writes p bs next) = λ i. Writes p bs (mapped_twice put first next i)

-- A plan whose looks and accesses lie in these intervals.
abbrev pub Stays : {R : Type 0} → List Interval → Who → Plan R → List ℕ → Type 0
Stays all who plan m = Keeps who (Inside all) (IsIn all) (λ k r. Unit {0}) plan m

pub stays_before : {R T : Type 0} (put : R → T) (all : List Interval) (who : Who) (plan : Plan R) (m : List ℕ) → Stays all who (plan_mapped put plan) m → Stays all who plan m
stays_before put all who (Done r) m h = tt
stays_before put all who Wilds m h = h
stays_before put all who (Reads p n next) m h = (h.0, stays_before put all who (next (bytes_at m p n)) m h.1)
stays_before put all who (Looks p n next) m h = (h.0, stays_before put all who (next (bytes_at m p n)) m h.1)
stays_before put all who (Writes p bs next) m h = (h.0, stays_before put all who next (bytes_stored m p bs) h.1)

-- over memories that agree there it does the same
pub same_over : {R : Type 0} (all : List Interval) (who : Who) (plan : Plan R) (m k : List ℕ) → Agree all m k → Stays all who plan m → SameBut all (outcome_of who plan m) (outcome_of who plan k)
same_over all who plan m k agree stays = search (rules, arith, footprint, keeps_looks, keeps_accesses)

-- two turns whose plans did the same, where what each came to is put among what all units keep
put_by : {R : Type 0} (mine : Client) (put also : R → Units) (wild ends : Units) (result : Option R) → ((r : R) → result ≡ Some r → UnitsAlike mine (put r) (also r)) → UnitsAlike mine wild ends
    → UnitsAlike mine (unwrap_or (option_map put result) wild) (unwrap_or (option_map also result) ends)
put_by mine put also wild ends result puts wilds = search (rules, arith)

pub turns_alike : {R : Type 0} (mine : Client) (all : List Interval) (s t : State) (who : Who) (plan other : Plan R) (put also : R → Units) (wild ends : Units) → SameBut all (outcome_of who plan s.memory) (outcome_of who other t.memory)
    → ((r : R) → (outcome_of who plan s.memory).result ≡ Some r → UnitsAlike mine (put r) (also r)) → UnitsAlike mine wild ends
    → GaveAlike mine all (world_turned s (record { who = who; plan = plan_mapped put plan; wild = wild })) (world_turned t (record { who = who; plan = plan_mapped also other; wild = ends }))
turns_alike mine all s t who plan other put also wild ends same puts wilds = search (rules, arith, handed, put_by, carried_mapped)
