-- Laws over plans, proved once for all units.
use Rattle.std.proofs.Common.{◌≡◌, ℕ, List, ◌∷◌, length, slice_index, refl, ◌∙◌, ap, subst}
use Rattle.field_words.specs.declared.access.{Access.Access, Way.Way, Way.TheVariants.Read, Way.TheVariants.Write, Way.TheVariants.Wild}
use Rattle.machine_plan.specs.Plan.{Plan, Done, Wilds, Reads, Looks, Writes, Outcome, access, outcome_of, Keeps, LooksIn}
use Rattle.machine_plan.specs.{declared.who.Who.Who, Memory.bytes_at, Memory.bytes_stored}
use Rattle.machine_plan.specs.Regions.{Interval, Inside, IsIn, Every, Agree, Misses}
use Rattle.machine_plan.proofs.Memory.{bytes_agree, stored_agree, stored_keeps, length-stored}

-- two outcomes are the same but for memories that agree on the intervals
pub record SameBut {R : Type 0} (rs : List Interval) (o q : Outcome R) : Type 0 where
  pub accesses : o.accesses ≡ q.accesses
  pub result : o.result ≡ q.result
  pub memory : Agree rs o.memory q.memory

-- The footprint: over two memories that agree on the intervals in which the plan's looks and
-- accesses lie, it does the same.
pub footprint : {R : Type 0} (who : Who) (rs : List Interval) (plan : Plan R) (m k : List ℕ) → Agree rs m k → LooksIn (Inside rs) plan m → Every (IsIn rs) (outcome_of who plan m).accesses → SameBut rs (outcome_of who plan m) (outcome_of who plan k)
footprint who rs (Done r) m k agree looks all = record { accesses = refl; result = refl; memory = agree }
footprint who rs Wilds m k agree looks all = record { accesses = refl; result = refl; memory = agree }
footprint who rs (Reads p n next) m k agree looks all =
    let same : bytes_at m p n ≡ bytes_at k p n = bytes_agree rs m k agree p n all.0 in
    let rest : SameBut rs (outcome_of who (next (bytes_at m p n)) m) (outcome_of who (next (bytes_at m p n)) k) = footprint who rs (next (bytes_at m p n)) m k agree looks all.1 in
    let P : List ℕ → Type 0 = λ bytes. SameBut rs (outcome_of who (Reads p n next) m) (outcome_of who (Looks p n (λ _. Reads p n (λ _. next bytes))) k) in
    subst P same (record { accesses = ap (λ later. access who Read p n ∷ later) rest.accesses; result = rest.result; memory = rest.memory })
footprint who rs (Looks p n next) m k agree looks all =
    let P : List ℕ → Type 0 = λ bytes. SameBut rs (outcome_of who (Looks p n next) m) (outcome_of who (next bytes) k) in
    subst P (bytes_agree rs m k agree p n looks.0) (footprint who rs (next (bytes_at m p n)) m k agree looks.1 all)
footprint who rs (Writes p bs next) m k agree looks all =
    let rest : SameBut rs (outcome_of who next (bytes_stored m p bs)) (outcome_of who next (bytes_stored k p bs)) = footprint who rs next (bytes_stored m p bs) (bytes_stored k p bs) (stored_agree rs bs m k p agree) looks all.1 in
    record { accesses = ap (λ later. access who Write p (length bs) ∷ later) rest.accesses; result = rest.result; memory = rest.memory }

-- only bytes inside the plan's writes change
pub kept : {R : Type 0} (who : Who) (plan : Plan R) (m : List ℕ) (q : ℕ) → Every (Misses q) (outcome_of who plan m).accesses → slice_index (outcome_of who plan m).memory q ≡ slice_index m q
kept who (Done r) m q all = refl
kept who Wilds m q all = refl
kept who (Reads p n next) m q all = kept who (next (bytes_at m p n)) m q all.1
kept who (Looks p n next) m q all = kept who (next (bytes_at m p n)) m q all
kept who (Writes p bs next) m q all = kept who next (bytes_stored m p bs) q all.1 ∙ stored_keeps bs m p q (all.0 refl)

-- no plan changes the memory's length
pub length-carried : {R : Type 0} (who : Who) (plan : Plan R) (m : List ℕ) → length (outcome_of who plan m).memory ≡ length m
length-carried who (Done r) m = refl
length-carried who Wilds m = refl
length-carried who (Reads p n next) m = length-carried who (next (bytes_at m p n)) m
length-carried who (Looks p n next) m = length-carried who (next (bytes_at m p n)) m
length-carried who (Writes p bs next) m = length-carried who next (bytes_stored m p bs) ∙ length-stored m p bs

-- what is kept along a plan holds of each access of its outcome
pub keeps_accesses : {R : Type 0} (who : Who) (L : ℕ → ℕ → Type 0) (G : Access → Type 0) (P : List ℕ → R → Type 0) (plan : Plan R) (m : List ℕ) → Keeps who L G P plan m → Every G (outcome_of who plan m).accesses
keeps_accesses who L G P (Done r) m h = tt
keeps_accesses who L G P Wilds m h = (h, tt)
keeps_accesses who L G P (Reads p n next) m h = (h.0, keeps_accesses who L G P (next (bytes_at m p n)) m h.1)
keeps_accesses who L G P (Looks p n next) m h = keeps_accesses who L G P (next (bytes_at m p n)) m h.1
keeps_accesses who L G P (Writes p bs next) m h = (h.0, keeps_accesses who L G P next (bytes_stored m p bs) h.1)

-- and of its looks
pub keeps_looks : {R : Type 0} (who : Who) (L : ℕ → ℕ → Type 0) (G : Access → Type 0) (P : List ℕ → R → Type 0) (plan : Plan R) (m : List ℕ) → Keeps who L G P plan m → LooksIn L plan m
keeps_looks who L G P (Done r) m h = tt
keeps_looks who L G P Wilds m h = tt
keeps_looks who L G P (Reads p n next) m h = keeps_looks who L G P (next (bytes_at m p n)) m h.1
keeps_looks who L G P (Looks p n next) m h = (h.0, keeps_looks who L G P (next (bytes_at m p n)) m h.1)
keeps_looks who L G P (Writes p bs next) m h = keeps_looks who L G P next (bytes_stored m p bs) h.1

-- what is kept may be weakened
pub keeps_weaker : {R : Type 0} (who : Who) (L K : ℕ → ℕ → Type 0) (G H : Access → Type 0) (P Q : List ℕ → R → Type 0) → ((p n : ℕ) → L p n → K p n) → ((a : Access) → G a → H a) → ((m : List ℕ) (r : R) → P m r → Q m r) → (plan : Plan R) (m : List ℕ) → Keeps who L G P plan m → Keeps who K H Q plan m
keeps_weaker who L K G H P Q looks good ends (Done r) m h = ends m r h
keeps_weaker who L K G H P Q looks good ends Wilds m h = good (access who Wild 0 0) h
keeps_weaker who L K G H P Q looks good ends (Reads p n next) m h = (good (access who Read p n) h.0, keeps_weaker who L K G H P Q looks good ends (next (bytes_at m p n)) m h.1)
keeps_weaker who L K G H P Q looks good ends (Looks p n next) m h = (looks p n h.0, keeps_weaker who L K G H P Q looks good ends (next (bytes_at m p n)) m h.1)
keeps_weaker who L K G H P Q looks good ends (Writes p bs next) m h = (good (access who Write p (length bs)) h.0, keeps_weaker who L K G H P Q looks good ends next (bytes_stored m p bs) h.1)

-- A law of a unit speaks of the accesses of its own job alone: what is good of each access that this
-- step can make takes the place of what is kept.
pub keeps_of : {R : Type 0} (who : Who) (L : ℕ → ℕ → Type 0) (G H : Access → Type 0) (P : List ℕ → R → Type 0) → ((way : Way) (p n : ℕ) → G (access who way p n) → H (access who way p n)) → (plan : Plan R) (m : List ℕ) → Keeps who L G P plan m → Keeps who L H P plan m
keeps_of who L G H P good (Done r) m h = h
keeps_of who L G H P good Wilds m h = good Wild 0 0 h
keeps_of who L G H P good (Reads p n next) m h = (good Read p n h.0, keeps_of who L G H P good (next (bytes_at m p n)) m h.1)
keeps_of who L G H P good (Looks p n next) m h = (h.0, keeps_of who L G H P good (next (bytes_at m p n)) m h.1)
keeps_of who L G H P good (Writes p bs next) m h = (good Write p (length bs) h.0, keeps_of who L G H P good next (bytes_stored m p bs) h.1)
