-- Code that carried out a plan part by part.
use Rattle.std.proofs.Common.{◌≡◌, ℕ, List, [], ◌∷◌, ◌++◌, length, Option, Some, None, refl, sym, ◌∙◌, ap, subst, append_assoc}
use Rattle.field_words.specs.declared.access.{Access.Access, Way.TheVariants.Read, Way.TheVariants.Write}
use Rattle.machine_plan.specs.Plan.{Plan, Done, Wilds, Reads, Looks, Writes, Outcome, Shows, access, after_access, outcome_of}
use Rattle.machine_plan.specs.{declared.who.Who.Who, World.plan_followed, Memory.bytes_at, Memory.bytes_stored}
use Rattle.machine_plan.proofs.Reading.{IsLeft}

-- an outcome, and then what comes of its result and memory
abbrev pub continued : {R T : Type 0} → Option R → List Access → List ℕ → (R → List ℕ → Outcome T) → Outcome T
continued None listed m further = record { accesses = listed; memory = m; result = None }
continued (Some r) listed m further = record { accesses = listed ++ (further r m).accesses; memory = (further r m).memory; result = (further r m).result }

first_continued : {R T : Type 0} (a : Access) (result : Option R) (listed : List Access) (m : List ℕ) (further : R → List ℕ → Outcome T) → after_access a (continued result listed m further) ≡ continued result (a ∷ listed) m further
first_continued a None listed m further = refl
first_continued a (Some r) listed m further = refl

abbrev pub OnwardOf : {R T : Type 0} → Who → (R → Plan T) → Outcome R → Outcome T
OnwardOf who further o = continued o.result o.accesses o.memory (λ r k. outcome_of who (further r) k)

carried_followed : {R T : Type 0} (who : Who) (plan : Plan R) (further : R → Plan T) (m : List ℕ) → outcome_of who (plan_followed plan further) m ≡ OnwardOf who further (outcome_of who plan m)
carried_followed who (Done r) further m = refl
carried_followed who Wilds further m = refl
carried_followed who (Reads p n next) further m =
    let o = outcome_of who (next (bytes_at m p n)) m in
    ap (after_access (access who Read p n)) (carried_followed who (next (bytes_at m p n)) further m) ∙ first_continued (access who Read p n) o.result o.accesses o.memory (λ r k. outcome_of who (further r) k)
carried_followed who (Looks p n next) further m = carried_followed who (next (bytes_at m p n)) further m
carried_followed who (Writes p bs next) further m =
    let o = outcome_of who next (bytes_stored m p bs) in
    ap (after_access (access who Write p (length bs))) (carried_followed who next further (bytes_stored m p bs)) ∙ first_continued (access who Write p (length bs)) o.result o.accesses o.memory (λ r k. outcome_of who (further r) k)

-- where the first plan came to r over the memory k, what comes then is the further plan of r
followed_is : {R T : Type 0} (who : Who) (plan : Plan R) (further : R → Plan T) (m k : List ℕ) (before listed : List Access) (r : R) → Shows (outcome_of who plan m) before listed k (Some r)
    → outcome_of who (plan_followed plan further) m ≡ continued (Some r) (outcome_of who plan m).accesses k (λ s j. outcome_of who (further s) j)
followed_is {R = R} who plan further m k before listed r shows =
    let o : Outcome R = outcome_of who plan m in
    carried_followed who plan further m ∙ (ap (λ result. continued result o.accesses o.memory (λ s j. outcome_of who (further s) j)) (sym shows.result_is) ∙ ap (λ memory. continued (Some r) o.accesses memory (λ s j. outcome_of who (further s) j)) (sym shows.memory_is))

pub shows_followed : {R T : Type 0} (who : Who) (plan : Plan R) (further : R → Plan T) (m k : List ℕ) (before listed after : List Access) (memory : List ℕ) (r : R) (result : Option T) → Shows (outcome_of who plan m) before listed k (Some r)
    → Shows (outcome_of who (further r) k) listed after memory result → Shows (outcome_of who (plan_followed plan further) m) before after memory result
shows_followed {R = R} {T = T} who plan further m k before listed after memory r result first then =
    let o : Outcome R = outcome_of who plan m in
    let q : Outcome T = outcome_of who (further r) k in
    subst (λ whole. Shows whole before after memory result) (sym (followed_is who plan further m k before listed r first)) (record {
      accesses = then.accesses ∙ (ap (λ now. now ++ q.accesses) first.accesses ∙ append_assoc before o.accesses q.accesses);
      memory_is = then.memory_is;
      result_is = then.result_is;
    })

-- the plan that follows, with what is left of the whole
pub left_followed : {R T : Type 0} (who : Who) (plan : Plan R) (further : R → Plan T) (m k : List ℕ) (whole : Outcome T) (before now listed : List Access) (r : R) → IsLeft whole (outcome_of who (plan_followed plan further) m) before now
    → Shows (outcome_of who plan m) now listed k (Some r) → IsLeft whole (outcome_of who (further r) k) before listed
left_followed {R = R} {T = T} who plan further m k whole before now listed r left first =
    let o : Outcome R = outcome_of who plan m in
    let q : Outcome T = outcome_of who (further r) k in
    let here : IsLeft whole (continued (Some r) o.accesses k (λ s j. outcome_of who (further s) j)) before now = subst (λ rest. IsLeft whole rest before now) (followed_is who plan further m k now listed r first) left in
    record {
      accesses = ap (λ l. l ++ q.accesses) first.accesses ∙ (append_assoc now o.accesses q.accesses ∙ here.accesses);
      memory = here.memory;
      result = here.result;
    }

-- code that wrote and listed it, and carried out what comes then
pub shows_wrote : {R : Type 0} (who : Who) (place : ℕ) (bytes : List ℕ) (next : Plan R) (m k : List ℕ) (before listed after : List Access) (memory : List ℕ) (result : Option R) → listed ≡ before ++ access who Write place (length bytes) ∷ [] → k ≡ bytes_stored m place bytes
    → Shows (outcome_of who next k) listed after memory result → Shows (outcome_of who (Writes place bytes next) m) before after memory result
shows_wrote {R = R} who place bytes next m k before listed after memory result listed_is k_is shows =
    let a : Access = access who Write place (length bytes) in
    let g = subst (λ w. Shows (outcome_of who next w) listed after memory result) k_is shows in
    let o : Outcome R = outcome_of who next (bytes_stored m place bytes) in
    record {
      accesses = g.accesses ∙ (ap (λ now. now ++ o.accesses) listed_is ∙ append_assoc before (a ∷ []) o.accesses);
      memory_is = g.memory_is;
      result_is = g.result_is;
    }

pub left_write : {R : Type 0} (who : Who) (place : ℕ) (bytes : List ℕ) (next : Plan R) (m : List ℕ) (whole : Outcome R) (before now : List Access)
    → IsLeft whole (outcome_of who (Writes place bytes next) m) before now → IsLeft whole (outcome_of who next (bytes_stored m place bytes)) before (now ++ access who Write place (length bytes) ∷ [])
left_write {R = R} who place bytes next m whole before now left =
    let rest : Outcome R = outcome_of who next (bytes_stored m place bytes) in
    record {
      accesses = append_assoc now (access who Write place (length bytes) ∷ []) rest.accesses ∙ left.accesses;
      memory = left.memory;
      result = left.result;
    }
