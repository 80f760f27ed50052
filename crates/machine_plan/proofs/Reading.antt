-- Plans that code carries out read by read.
use Rattle.std.proofs.Common.{◌≡◌, ℕ, List, [], ◌∷◌, ◌++◌, Option, refl, sym, ◌∙◌, ap, subst, append_assoc, append-nil, Some, None}
use Rattle.field_words.specs.declared.access.{Access.Access, Way.TheVariants.Read, Way.TheVariants.Wild}
use Rattle.machine_plan.specs.{declared.who.Who.Who, Memory.bytes_at}
use Rattle.machine_plan.specs.Plan.{Plan, Done, Wilds, Reads, Outcome, Shows, access, outcome_of}

-- code that listed a read, and carried out what the plan does with the bytes
pub shows_read : {R : Type 0} (who : Who) (place len : ℕ) (next : List ℕ → Plan R) (m bytes : List ℕ) (before listed after : List Access) (memory : List ℕ) (result : Option R) → listed ≡ before ++ access who Read place len ∷ [] → bytes ≡ bytes_at m place len
    → Shows (outcome_of who (next bytes) m) listed after memory result → Shows (outcome_of who (Reads place len next) m) before after memory result
shows_read {R = R} who place len next m bytes before listed after memory result listed_is bytes_is shows =
    let g = subst (λ q. Shows (outcome_of who (next q) m) listed after memory result) bytes_is shows in
    let o : Outcome R = outcome_of who (next (bytes_at m place len)) m in
    record {
      accesses = g.accesses ∙ (ap (λ now. now ++ o.accesses) listed_is ∙ append_assoc before ((access who Read place len) ∷ []) o.accesses);
      memory_is = g.memory_is;
      result_is = g.result_is;
    }

-- A loop that carries out a plan: what it has done and what the rest of the plan does are together
-- what the whole plan does.
pub record IsLeft {R : Type 0} (whole rest : Outcome R) (before now : List Access) : Type 0 where
  pub accesses : now ++ rest.accesses ≡ before ++ whole.accesses
  pub memory : rest.memory ≡ whole.memory
  pub result : rest.result ≡ whole.result

pub left_first : {R : Type 0} (whole : Outcome R) (before : List Access) → IsLeft whole whole before before
left_first whole before = record { accesses = refl; memory = refl; result = refl }

pub left_read : {R : Type 0} (who : Who) (place len : ℕ) (next : List ℕ → Plan R) (m : List ℕ) (whole : Outcome R) (before now : List Access)
    → IsLeft whole (outcome_of who (Reads place len next) m) before now → IsLeft whole (outcome_of who (next (bytes_at m place len)) m) before (now ++ access who Read place len ∷ [])
left_read {R = R} who place len next m whole before now left =
    record {
      accesses = append_assoc now (access who Read place len ∷ []) (outcome_of who (next (bytes_at m place len)) m).accesses ∙ left.accesses;
      memory = left.memory;
      result = left.result;
    }

pub left_done : {R : Type 0} (who : Who) (r : R) (m : List ℕ) (whole : Outcome R) (before now : List Access) → IsLeft whole (outcome_of who (Done r) m) before now → Shows whole before now m (Some r)
left_done who r m whole before now left = record { accesses = sym (append-nil now) ∙ left.accesses; memory_is = left.memory; result_is = left.result }

pub left_wild : {R : Type 0} (who : Who) (m : List ℕ) (whole : Outcome R) (before now listed : List Access) → IsLeft whole (outcome_of who Wilds m) before now → listed ≡ now ++ access who Wild 0 0 ∷ [] → Shows whole before listed m None
left_wild who m whole before now listed left listed_is = record { accesses = listed_is ∙ left.accesses; memory_is = left.memory; result_is = left.result }
