-- Laws of plans whose result is handed on, and of glances.
use Rattle.std.proofs.Common.{◌≡◌, ℕ, List, [], ◌∷◌, ◌++◌, length, Option, refl, sym, ◌∙◌, ap}
use Rattle.std.specs.Prelude.{option_map, unwrap_or}
use Rattle.field_words.specs.declared.access.{Access.Access, Way.TheVariants.Read, Way.TheVariants.Write, Way.TheVariants.Wild}
use Rattle.machine_plan.specs.Plan.{Plan, Done, Wilds, Reads, Looks, Writes, Outcome, Shows, access, outcome_of, Keeps}
use Rattle.machine_plan.specs.{declared.who.Who.Who, Memory.bytes_at, Memory.bytes_stored, Regions.Interval, Regions.Inside, Regions.Agree}
use Rattle.machine_plan.specs.Glance.{Glance, Now, At, glance_result, GlancesIn}
use Rattle.machine_plan.specs.World.{plan_mapped, plan_followed, World, world_turned, Moves}
use Rattle.machine_plan.proofs.Memory.{bytes_agree}

-- what is kept along a plan whose result is handed on
pub keeps_mapped : {R T : Type 0} (put : R → T) (who : Who) (L : ℕ → ℕ → Type 0) (G : Access → Type 0) (P : List ℕ → T → Type 0) (plan : Plan R) (m : List ℕ) → Keeps who L G (λ k r. P k (put r)) plan m → Keeps who L G P (plan_mapped put plan) m
keeps_mapped put who L G P (Done r) m h = h
keeps_mapped put who L G P Wilds m h = h
keeps_mapped put who L G P (Reads p n next) m h = (h.0, keeps_mapped put who L G P (next (bytes_at m p n)) m h.1)
keeps_mapped put who L G P (Looks p n next) m h = (h.0, keeps_mapped put who L G P (next (bytes_at m p n)) m h.1)
keeps_mapped put who L G P (Writes p bs next) m h = (h.0, keeps_mapped put who L G P next (bytes_stored m p bs) h.1)

-- what is kept along a plan and then along the one that goes by its result
pub keeps_followed : {R T : Type 0} (further : R → Plan T) (who : Who) (L : ℕ → ℕ → Type 0) (G : Access → Type 0) (P : List ℕ → T → Type 0) (plan : Plan R) (m : List ℕ) → Keeps who L G (λ k r. Keeps who L G P (further r) k) plan m → Keeps who L G P (plan_followed plan further) m
keeps_followed further who L G P (Done r) m h = h
keeps_followed further who L G P Wilds m h = h
keeps_followed further who L G P (Reads p n next) m h = (h.0, keeps_followed further who L G P (next (bytes_at m p n)) m h.1)
keeps_followed further who L G P (Looks p n next) m h = (h.0, keeps_followed further who L G P (next (bytes_at m p n)) m h.1)
keeps_followed further who L G P (Writes p bs next) m h = (h.0, keeps_followed further who L G P next (bytes_stored m p bs) h.1)

-- the outcome with its result handed on
abbrev pub handed : {R T : Type 0} → (R → T) → Outcome R → Outcome T
handed put o = record { accesses = o.accesses; memory = o.memory; result = option_map put o.result }

pub carried_mapped : {R T : Type 0} (put : R → T) (who : Who) (plan : Plan R) (m : List ℕ) → outcome_of who (plan_mapped put plan) m ≡ handed put (outcome_of who plan m)
carried_mapped put who (Done r) m = refl
carried_mapped put who Wilds m = refl
carried_mapped put who (Reads p n next) m = ap (λ o. record { accesses = access who Read p n ∷ o.accesses; memory = o.memory; result = o.result }) (carried_mapped put who (next (bytes_at m p n)) m)
carried_mapped put who (Looks p n next) m = carried_mapped put who (next (bytes_at m p n)) m
carried_mapped put who (Writes p bs next) m = ap (λ o. record { accesses = access who Write p (length bs) ∷ o.accesses; memory = o.memory; result = o.result }) (carried_mapped put who next (bytes_stored m p bs))

-- code that carried out a plan has carried out the plan with its result handed on
pub shows_mapped : {R T : Type 0} (put : R → T) (who : Who) (plan : Plan R) (m : List ℕ) (before after : List Access) (memory : List ℕ) (result : Option R) → Shows (outcome_of who plan m) before after memory result
    → Shows (outcome_of who (plan_mapped put plan) m) before after memory (option_map put result)
shows_mapped put who plan m before after memory result shows =
    let e = carried_mapped put who plan m in
    record {
      accesses = shows.accesses ∙ ap (λ o. before ++ o.accesses) (sym e);
      memory_is = shows.memory_is ∙ ap (λ o. o.memory) (sym e);
      result_is = ap (option_map put) shows.result_is ∙ ap (λ o. o.result) (sym e);
    }

-- Code that carried out a unit's plan took the machine's turn: `put` says what all units keep then,
-- and `wild` what they keep after an undefined step.
pub unit_done : {U R : Type 0} (w : World U) (who : Who) (plan : Plan R) (put : R → U) (wild : U) (listed : List Access) (memory : List ℕ) (result : Option R) → Shows (outcome_of who plan w.memory) [] listed memory result
    → Moves (world_turned w (record { who = who; plan = plan_mapped put plan; wild = wild })) listed (record { memory = memory; units = unwrap_or (option_map put result) wild })
unit_done w who plan put wild listed memory result shows =
    let now = shows_mapped put who plan w.memory [] listed memory result shows in
    record {
      accesses_are = now.accesses;
      state_is = λ i. record { memory = now.memory_is i; units = unwrap_or (now.result_is i) wild };
    }

-- a glance over memories that agree where it looks comes to the same
pub glance_alike : {R : Type 0} (L : ℕ → ℕ → Type 0) (rs : List Interval) → ((p n : ℕ) → L p n → Inside rs p n) → (glance : Glance R) (m k : List ℕ) → Agree rs m k → GlancesIn L glance m → glance_result glance m ≡ glance_result glance k
glance_alike L rs within (Now r) m k agree looks = refl
glance_alike L rs within (At p n next) m k agree looks =
    glance_alike L rs within (next (bytes_at m p n)) m k agree looks.1
    ∙ ap (λ bytes. glance_result (next bytes) k) (bytes_agree rs m k agree p n (within p n looks.0))

-- where no safe access is undefined, what is kept at a plan's end holds of the result
pub keeps_result : {R : Type 0} (who : Who) (L : ℕ → ℕ → Type 0) (G : Access → Type 0) (P : R → Type 0) → (G (access who Wild 0 0) → ⊥) → (plan : Plan R) (m : List ℕ) (wild : R) → Keeps who L G (λ k r. P r) plan m → P (unwrap_or (outcome_of who plan m).result wild)
keeps_result who L G P tame (Done r) m wild h = h
keeps_result who L G P tame Wilds m wild h = absurd (tame h)
keeps_result who L G P tame (Reads p n next) m wild h = keeps_result who L G P tame (next (bytes_at m p n)) m wild h.1
keeps_result who L G P tame (Looks p n next) m wild h = keeps_result who L G P tame (next (bytes_at m p n)) m wild h.1
keeps_result who L G P tame (Writes p bs next) m wild h = keeps_result who L G P tame next (bytes_stored m p bs) wild h.1
