-- A run over a memory of which some bytes are known and written by no step.
use Rattle.std.proofs.Common.{◌≡◌, ◌<◌, ◌≤◌, ℕ, ◌+◌, ◌-◌, Bool, true, false, if◌then◌else◌, List, [], ◌∷◌, length, slice_index, refl, sym, ap, subst, arith, ◌∙◌}
use Rattle.std.proofs.lemmas.{Bool.and_parts, Bool.Decides.nat_tests, Grind.common_steps}
use Rattle.std.specs.{Prelude.nat_le, Prelude.◌&&◌, Prelude.◌||◌, Prelude.Some, Prelude.None, List.list_all}
use Rattle.field_words.specs.Writes.{Part}
use Rattle.field_words.specs.declared.access.{Access.Access, Way.Way, Way.TheVariants.Read, Way.TheVariants.Write, Way.TheVariants.Wild}
use Rattle.machine_plan.specs.{declared.who.Who.Who, Glance.Glance, Glance.Now, Glance.At, Glance.glance_result, Regions.Every, Memory.bytes_at, Memory.bytes_stored}
use Rattle.machine_plan.specs.Plan.{Plan, Done, Wilds, Reads, Looks, Writes, Outcome, access, after_access, outcome_of}
use Rattle.machine_plan.specs.Runs.{Moved, Allowed, state_reached}
use Rattle.machine_plan.specs.World.{Turn, outcome_settled}
use Rattle.machine_plan.proofs.Memory.{bytes_same, stored_keeps}
use Rattle.machine.specs.State.{State, Units}
use Rattle.machine.specs.Step.{Event, ready, turn, may, step}

-- the memory has these bytes at their places
abbrev pub Stands : List ℕ → Part → Type 0
Stands m part = (i : ℕ) → i < length part.bytes → slice_index m (part.place + i) ≡ slice_index part.bytes i

abbrev pub Has : List Part → List ℕ → Type 0
Has parts m = Every (Stands m) parts

abbrev covers : Part → ℕ → ℕ → Bool
covers part p n = nat_le part.place p && nat_le (p + n) (part.place + length part.bytes)

-- the n bytes from a place on, which are known where they lie in a part
abbrev pub seen : List Part → List ℕ → ℕ → ℕ → List ℕ
seen [] m p n = bytes_at m p n
seen (part ∷ parts) m p n = if covers part p n then bytes_at part.bytes (p - part.place) n else seen parts m p n

seen_by : (part : Part) (m : List ℕ) (p n : ℕ) (other : List ℕ) (b : Bool) → covers part p n ≡ b → Stands m part → other ≡ bytes_at m p n
    → (if b then bytes_at part.bytes (p - part.place) n else other) ≡ bytes_at m p n
seen_by part m p n other false is stands rest = rest
seen_by part m p n other true is stands rest =
    let both = and_parts (nat_le part.place p) (nat_le (p + n) (part.place + length part.bytes)) is in
    let from : part.place ≤ p = grind (arith, nat_tests, both.0) in
    let upto : p + n ≤ part.place + length part.bytes = grind (arith, nat_tests, both.1) in
    sym (bytes_same m part.bytes p (p - part.place) n (λ i below.
    ap (λ q. slice_index m q) (omega (arith, from)) ∙ stands (p - part.place + i) (omega (arith, from, upto, below))))

pub seen_is : (parts : List Part) (m : List ℕ) (p n : ℕ) → Has parts m → seen parts m p n ≡ bytes_at m p n
seen_is [] m p n has = refl
seen_is (part ∷ parts) m p n has = seen_by part m p n (seen parts m p n) (covers part p n) refl has.0 (seen_is parts m p n has.1)

-- a write of n bytes there touches no part
abbrev is_clear : Part → ℕ → ℕ → Bool
is_clear part p n = nat_le (p + n) part.place || nat_le (part.place + length part.bytes) p

abbrev all_clear : List Part → ℕ → ℕ → Bool
all_clear [] p n = true
all_clear (part ∷ parts) p n = is_clear part p n && all_clear parts p n

abbrev misses_by : List Part → Way → ℕ → ℕ → Bool
misses_by parts Read p n = true
misses_by parts Wild p n = true
misses_by parts Write p n = all_clear parts p n

abbrev pub misses : List Part → Access → Bool
misses parts a = misses_by parts a.way a.place a.len

stands_on : (part : Part) (m : List ℕ) (p : ℕ) (bytes : List ℕ) → is_clear part p (length bytes) ≡ true → Stands m part → Stands (bytes_stored m p bytes) part
stands_on part m p bytes clear stands = λ i below. stored_keeps bytes m p (part.place + i) (λ low high. grind (arith, nat_tests, common_steps, clear, below, low, high)) ∙ stands i below

has_on : (parts : List Part) (m : List ℕ) (p : ℕ) (bytes : List ℕ) → all_clear parts p (length bytes) ≡ true → Has parts m → Has parts (bytes_stored m p bytes)
has_on [] m p bytes clear has = tt
has_on (part ∷ parts) m p bytes clear has =
    let both = and_parts (is_clear part p (length bytes)) (all_clear parts p (length bytes)) clear in
    (stands_on part m p bytes both.0 has.0, has_on parts m p bytes both.1 has.1)

-- a plan carried out by what is known
abbrev pub watched : {R : Type 0} → List Part → Who → Plan R → List ℕ → Outcome R
watched parts who (Done r) m = record { accesses = []; memory = m; result = Some r }
watched parts who Wilds m = record { accesses = access who Wild 0 0 ∷ []; memory = m; result = None }
watched parts who (Reads place len next) m = after_access (access who Read place len) (watched parts who (next (seen parts m place len)) m)
watched parts who (Looks place len next) m = watched parts who (next (seen parts m place len)) m
watched parts who (Writes place bytes next) m = after_access (access who Write place (length bytes)) (watched parts who next (bytes_stored m place bytes))

record SameOutcome {R : Type 0} (parts : List Part) (o q : Outcome R) : Type 0 where
  same : o ≡ q
  has : Has parts q.memory

watched_is : {R : Type 0} (parts : List Part) (who : Who) (plan : Plan R) (m : List ℕ) → Has parts m
    → list_all (misses parts) (watched parts who plan m).accesses ≡ true → SameOutcome parts (watched parts who plan m) (outcome_of who plan m)
watched_is parts who (Done r) m has clear = record { same = refl; has = has }
watched_is parts who Wilds m has clear = record { same = refl; has = has }
watched_is parts who (Reads p n next) m has clear =
    let rest = watched_is parts who (next (seen parts m p n)) m has clear in
    subst (λ bytes. SameOutcome parts (watched parts who (Reads p n next) m) (after_access (access who Read p n) (outcome_of who (next bytes) m))) (seen_is parts m p n has)
    (record { same = ap (after_access (access who Read p n)) rest.same; has = rest.has })
watched_is parts who (Looks p n next) m has clear =
    subst (λ bytes. SameOutcome parts (watched parts who (Looks p n next) m) (outcome_of who (next bytes) m)) (seen_is parts m p n has)
    (watched_is parts who (next (seen parts m p n)) m has clear)
watched_is parts who (Writes p bytes next) m has clear =
    let both = and_parts (all_clear parts p (length bytes)) (list_all (misses parts) (watched parts who next (bytes_stored m p bytes)).accesses) clear in
    let rest = watched_is parts who next (bytes_stored m p bytes) (has_on parts m p bytes both.0 has) both.1 in
    record { same = ap (after_access (access who Write p (length bytes))) rest.same; has = rest.has }

abbrev glimpsed : List Part → Glance Bool → List ℕ → Bool
glimpsed parts (Now r) m = r
glimpsed parts (At p n next) m = glimpsed parts (next (seen parts m p n)) m

glimpsed_is : (parts : List Part) (g : Glance Bool) (m : List ℕ) → Has parts m → glimpsed parts g m ≡ glance_result g m
glimpsed_is parts (Now r) m has = refl
glimpsed_is parts (At p n next) m has = glimpsed_is parts (next (seen parts m p n)) m has ∙ ap (λ bytes. glance_result (next bytes) m) (seen_is parts m p n has)

-- the steps of a run by what is known
abbrev watched_turn : List Part → State → Turn Units → Moved State
watched_turn parts s t = outcome_settled t.wild (watched parts t.who t.plan s.memory)

abbrev pub watched_step : List Part → State → Event → Moved State
watched_step parts s event = watched_turn parts s (turn s.units event)

-- each step may be taken, and writes none of the parts
abbrev pub goes : List Part → State → List Event → Bool
goes parts s [] = true
goes parts s (event ∷ events) =
    let moved = watched_step parts s event in
    glimpsed parts (ready s.units event) s.memory && (list_all (misses parts) moved.accesses && goes parts moved.state events)

-- Then so it is in the machine, which comes to the same.
pub record Goes (parts : List Part) (s : State) (events : List Event) : Type 0 where
  pub allowed : Allowed may step s events
  pub reached_is : state_reached (watched_step parts) s events ≡ state_reached step s events

pub goes_on : (parts : List Part) (s : State) (events : List Event) → Has parts s.memory → goes parts s events ≡ true → Goes parts s events
goes_on parts s [] has is = record { allowed = tt; reached_is = refl }
goes_on parts s (event ∷ events) has is =
    let moved = watched_step parts s event in
    let both = and_parts (glimpsed parts (ready s.units event) s.memory) (list_all (misses parts) moved.accesses && goes parts moved.state events) is in
    let two = and_parts (list_all (misses parts) moved.accesses) (goes parts moved.state events) both.1 in
    let t = turn s.units event in
    let one = watched_is parts t.who t.plan s.memory has two.0 in
    let same : moved ≡ step s event = ap (outcome_settled t.wild) one.same in
    let first : Goes parts moved.state events = goes_on parts moved.state events (subst (λ a. Has parts a.state.memory) (sym same) one.has) two.1 in
    let later : Goes parts (step s event).state events = subst (λ a. Goes parts a.state events) same first in
    record {
      allowed = (sym (glimpsed_is parts (ready s.units event) s.memory has) ∙ both.0, later.allowed);
      reached_is = ap (λ a. state_reached (watched_step parts) a.state events) same ∙ later.reached_is;
    }
