-- Clients are apart: what one client's jobs access, and what its memory ends as, is the same in all runs in which they take the same steps.
use Rattle.std.proofs.Common.{◌≡◌, ℕ, zero, suc, ◌+◌, ◌⊎◌, inl, inr, Bool, true, false, if◌then◌else◌, List, [], ◌∷◌, ◌++◌, refl, sym, ◌∙◌, ap, subst, arith, IsTrue, map, slice_index, Some, None, rules}
use Rattle.std.proofs.lemmas.{Bool.false≢true, Option.slice_get-map}
use Rattle.machine_plan.specs.Regions.{Interval, Inside, Rights, rights_of, IsIn, IsSafeAccess, HasReadOnly, Agree, Misses}
use Rattle.machine_plan.specs.Others.{Happening, Steps, Changes, MayHappen, happen, AllMayHappen, IsLeft}
use Rattle.machine_plan.specs.{World.Turn, Runs.state_reached}
use Rattle.apart_law.specs.Part.{UnitsAlike, StatesAlike}
use Rattle.promises.specs.Trail.{Client, accesses_of, Entry, entry_of, own_entry, happening_entry, with_entry, entries_of}
use Rattle.promises.specs.Apart.{regions_of, IsUnshared, Beginning, AreLeft}
use Rattle.apart_law.specs.{Steps.StaysIn, Steps.StepsAlike, Tied.AreTied, Tied.RestsFresh}
use Rattle.machine_law.specs.Apart.{AreNeighbours, BeginsSoundly, ClientsApart, ClientsApartAnywhere, ClientsApartWithOthers}
use Rattle.machine_law.specs.{Jobs.facts_of, Laws.AreFine, Units.Facts, Units.QpuFine, Units.UnitsFine}
use Rattle.machine_plan.proofs.{Memory.inside_part, Runs.every-weaker, Others.Holds, Others.run_holds, Others.run_others}
use Rattle.machine_plan.proofs.Plans.{kept, length-carried, keeps_accesses, keeps_of, keeps_weaker}
use Rattle.machine.specs.State.{Units, State, start_of}
use Rattle.machine.specs.Step.{Event, job_of, may, step, ready, turn}
use Rattle.apart_law.proofs.{Own.own_alike_law, Tied.idle_tied, Turns.turn_job, Silent.others_silent_law, Silent.keep_tied_law}
use Rattle.apart_law.proofs.{Parts.some_same, Parts.some_none, Trails.AllMay, Trails.trails_alike}
use Rattle.machine_law.proofs.{Begins.each_begins, Owes.AllKeep, Owes.units_owe_law, Owes.start_fine}
use Rattle.machine_plan.proofs.Safe.{inside-back}

-- The regions of a client's jobs, joined: they have the region of each of its jobs, and nothing else.

pub inside_left : (rs qs : List Interval) (p n : ℕ) → Inside rs p n → Inside (rs ++ qs) p n
inside_left [] qs p n lies = absurd lies
inside_left (r ∷ rs) qs p n (inl lies) = inl lies
inside_left (r ∷ rs) qs p n (inr lies) = inr (inside_left rs qs p n lies)

pub inside_either : (rs qs : List Interval) (p n : ℕ) → Inside (rs ++ qs) p n → Inside rs p n ⊎ Inside qs p n
inside_either [] qs p n lies = inr lies
inside_either (r ∷ rs) qs p n (inl lies) = inl (inl lies)
inside_either (r ∷ rs) qs p n (inr lies) = elim (inside_either rs qs p n lies) [ inl first ↦ inl (inr first) | inr later ↦ inr later ]

first_in : (own : Bool) (one rest : List Interval) (p n : ℕ) → own ≡ true → Inside one p n → Inside (if own then one ++ rest else rest) p n
first_in own one rest p n is lies = search (rules, arith, inside_left, false≢true)

rest_in : (own : Bool) (one rest : List Interval) (p n : ℕ) → Inside rest p n → Inside (if own then one ++ rest else rest) p n
rest_in own one rest p n lies = search (rules, arith, inside-back)

own_region_from : (mine : Client) (n j k : ℕ) (rights : List Rights) (p size : ℕ) → k ≡ n + j → mine k ≡ true → Inside (rights_of rights j).region p size → Inside (regions_of mine n rights) p size
own_region_from mine n j k [] p size is own lies = absurd lies
own_region_from mine n zero k (one ∷ others) p size is own lies = search (rules, arith, first_in)
own_region_from mine n (suc j) k (one ∷ others) p size is own lies = search (rules, arith, rest_in, own_region_from mine (n + 1) j k others p size (omega (arith, is)) own lies)

-- the region of a job of the client's
pub record LiesInOwn (mine : Client) (n : ℕ) (rights : List Rights) (p size : ℕ) : Type 0 where
  pub j : ℕ
  pub own : mine (n + j) ≡ true
  pub lies : Inside (rights_of rights j).region p size

next_own : (mine : Client) (n : ℕ) (one : Rights) (others : List Rights) (p size : ℕ) → LiesInOwn mine (n + 1) others p size → LiesInOwn mine n (one ∷ others) p size
next_own mine n one others p size h = record { j = suc h.j; own = ap mine (omega arith) ∙ h.own; lies = h.lies }

first_own : (mine : Client) (n : ℕ) (one : Rights) (others : List Rights) (p size : ℕ) → mine n ≡ true → Inside one.region p size → LiesInOwn mine n (one ∷ others) p size
first_own mine n one others p size own lies = record { j = 0; own = ap mine (omega arith) ∙ own; lies = lies }

in_own_by : (mine : Client) (n : ℕ) (own : Bool) (one : Rights) (others : List Rights) (p size : ℕ) → mine n ≡ own → (Inside (regions_of mine (n + 1) others) p size → LiesInOwn mine (n + 1) others p size)
    → Inside (if own then one.region ++ regions_of mine (n + 1) others else regions_of mine (n + 1) others) p size → LiesInOwn mine n (one ∷ others) p size
in_own_by mine n own one others p size is later lies = search (rules, arith, inside_either, first_own, next_own)

pub in_own : (mine : Client) (n : ℕ) (rights : List Rights) (p size : ℕ) → Inside (regions_of mine n rights) p size → LiesInOwn mine n rights p size
in_own mine n [] p size lies = absurd lies
in_own mine n (one ∷ others) p size lies = in_own_by mine n (mine n) one others p size refl (λ later. in_own mine (n + 1) others p size later) lies

pub own_at : (mine : Client) (rights : List Rights) (p size : ℕ) → (one : LiesInOwn mine 0 rights p size) → mine one.j ≡ true
own_at mine rights p size one = sym (ap mine (omega arith)) ∙ one.own

-- These intervals have the regions of the client's jobs, and no job of another client may write a byte of them.
pub record HasRegions (mine : Client) (rights : List Rights) (all : List Interval) : Type 0 where
  pub covers : (j p size : ℕ) → mine j ≡ true → Inside (rights_of rights j).region p size → Inside all p size
  pub apart : (k p : ℕ) → mine k ≡ false → Inside all p 1 → Inside (rights_of rights k).writable p 1 → ⊥

pub covered : (mine : Client) (rights : List Rights) (j p size : ℕ) → mine j ≡ true → Inside (rights_of rights j).region p size → Inside (regions_of mine 0 rights) p size
covered mine rights j p size own lies = own_region_from mine 0 j j rights p size (omega arith) own lies

pub has_regions : (mine : Client) (rights : List Rights) → IsUnshared mine rights → HasRegions mine rights (regions_of mine 0 rights)
has_regions mine rights unshared = search (rules, arith, covered, in_own)

-- these intervals are the client's among its other neighbours
pub neighbour_has : (mine : Client) (b c : Beginning) → AreNeighbours mine b c → HasRegions mine c.rights (regions_of mine 0 b.rights)
neighbour_has mine b c near = search (rules, arith, covered, in_own)

-- states that are alike to a client
pub units_same : (mine : Client) (u : Units) → UnitsAlike mine u u
units_same mine u = record { jobs = λ j own. refl; qpus = refl }

pub agree_same : (all : List Interval) (m : List ℕ) → Agree all m m
agree_same all m = record { long = refl; same = λ p lies. refl }

pub states_then : (mine : Client) (all : List Interval) (s t r : State) → StatesAlike mine all s t → StatesAlike mine all t r → StatesAlike mine all s r
states_then mine all s t r first second = record {
  units = record { jobs = λ j own. first.units.jobs j own ∙ second.units.jobs j own; qpus = first.units.qpus ∙ second.units.qpus };
  memory = record { long = first.memory.long ∙ second.memory.long; same = λ p lies. first.memory.same p lies ∙ second.memory.same p lies };
}

pub states_back : (mine : Client) (all : List Interval) (s t : State) → StatesAlike mine all s t → StatesAlike mine all t s
states_back mine all s t alike = record {
  units = record { jobs = λ j own. sym (alike.units.jobs j own); qpus = sym alike.units.qpus };
  memory = record { long = sym alike.memory.long; same = λ p lies. sym (alike.memory.same p lies) };
}

-- what is known of each state of a run
record Known (b : Beginning) (s : State) : Type 0 where
  pub holds : Holds b.rights b.memory (AreFine b.rights b.plains b.memory) s
  pub tied : AreTied s.units.qpus

-- a unit steps where it may, and others leave the client's bytes, and what jobs may only read
abbrev MayApart : Beginning → List Interval → State → Happening Event → Type 0
MayApart b all s (Steps event) = IsTrue (may s event)
MayApart b all s (Changes m) = HasReadOnly b.rights s.memory m × ((p : ℕ) → Inside all p 1 → slice_index m p ≡ slice_index s.memory p)

may_happen : (b : Beginning) (all : List Interval) (s : State) (one : Happening Event) → MayApart b all s one → MayHappen ready b.rights s one
may_happen b all s one can = search (rules, arith)

tied_after : (s : State) (one : Happening Event) → AreTied s.units.qpus → AreTied (happen turn s one).state.units.qpus
tied_after s one tied = search (rules, arith, keep_tied_law)

known_after : (b : Beginning) (all : List Interval) → BeginsSoundly b → (s : State) (one : Happening Event) → Known b s → MayApart b all s one → Known b (happen turn s one).state
known_after b all sound s one known can = record {
  holds = (run_holds ready turn b.rights b.memory (AreFine b.rights b.plains b.memory) (units_owe_law b.rights b.plains b.memory sound.plain) (one ∷ []) s known.holds (may_happen b all s one can, tt)).0;
  tied = tied_after s one known.tied;
}

-- what a step owes, by the rights of its job
abbrev pub StepKeeps : List Rights → Facts → State → Event → Type 0
StepKeeps rights f s event = AllKeep rights f (turn s.units event).who (turn s.units event).plan s.memory

step_keeps : (b : Beginning) → BeginsSoundly b → (s : State) (event : Event) → Known b s → IsTrue (may s event) → StepKeeps b.rights (facts_of b.rights b.plains b.memory) s event
step_keeps b sound s event known can = (units_owe_law b.rights b.plains b.memory sound.plain).keeps s.units s.memory event known.holds.units known.holds.has can

-- a step for another client's job writes no byte of the client's
others_leave : (mine : Client) (all : List Interval) (rights : List Rights) (f : Facts) → HasRegions mine rights all → (s : State) (event : Event) → mine (turn s.units event).who.job ≡ false → StepKeeps rights f s event → (p : ℕ) → Inside all p 1
    → slice_index (step s event).state.memory p ≡ slice_index s.memory p
others_leave mine all rights f has s event others keeps p lies =
    let t : Turn Units = turn s.units event in
    let L = Inside (rights_of rights t.who.job).region in
    let P : List ℕ → Units → Type 0 = λ k next. UnitsFine f next in
    kept t.who t.plan s.memory p
    (keeps_accesses t.who L (Misses p) P t.plan s.memory
    (keeps_of t.who L (IsSafeAccess rights) (Misses p) P
    (λ way q n safe writes from before. has.apart t.who.job p others lies (inside_part (rights_of rights t.who.job).writable q n p 1 (safe.writes writes) from (omega (arith, before))))
    t.plan s.memory keeps))

-- so it is silent
pub step_silent : (mine : Client) (all : List Interval) (rights : List Rights) (f : Facts) → HasRegions mine rights all → (s : State) (event : Event) → mine (job_of s event.unit) ≡ false → AreTied s.units.qpus → UnitsFine f s.units → StepKeeps rights f s event
    → (accesses_of mine (step s event).accesses ≡ []) × StatesAlike mine all (step s event).state s
step_silent mine all rights f has s event others tied fine keeps =
    let t : Turn Units = turn s.units event in
    let still = others_silent_law mine s event others tied (every-weaker (QpuFine f) RestsFresh (λ q known. known.rests) s.units.qpus fine.qpus) in
    let same = others_leave mine all rights f has s event (ap mine (turn_job s event) ∙ others) keeps in
    (still.0, record { units = still.1; memory = record { long = length-carried t.who t.plan s.memory; same = same } })

-- a step for its own job stays in what is the client's
pub own_stays : (mine : Client) (all : List Interval) (rights : List Rights) (f : Facts) → HasRegions mine rights all → (s : State) (event : Event) → mine (job_of s event.unit) ≡ true → StepKeeps rights f s event → StaysIn all (turn s.units event) s.memory
own_stays mine all rights f has s event is keeps =
    let t : Turn Units = turn s.units event in
    let own : mine t.who.job ≡ true = ap mine (turn_job s event) ∙ is in
    let L = Inside (rights_of rights t.who.job).region in
    let P : List ℕ → Units → Type 0 = λ k next. UnitsFine f next in
    keeps_weaker t.who L (Inside all) (IsIn all) (IsIn all) P (λ k next. Unit {0}) (λ q n lies. has.covers t.who.job q n own lies) (λ a lies. lies) (λ k next fine. tt) t.plan s.memory
    (keeps_of t.who L (IsSafeAccess rights) (IsIn all) P (λ way q n safe. has.covers t.who.job q n own safe.inside) t.plan s.memory keeps)

-- entries
pub entry_none : {X : Type 0} (own : Bool) (entry : X) → (if own then Some entry else None) ≡ None → own ≡ false
entry_none true entry is = absurd (some_none entry is)
entry_none false entry is = refl

pub entry_some : {X : Type 0} (own : Bool) (entry x : X) → (if own then Some entry else None) ≡ Some x → (own ≡ true) × (entry ≡ x)
entry_some true entry x is = (refl, some_same entry x is)
entry_some false entry x is = absurd (some_none x (sym is))

-- what leaves no entry is silent
silent : (mine : Client) (all : List Interval) (b : Beginning) → BeginsSoundly b → HasRegions mine b.rights all → (s : State) (one : Happening Event) → Known b s → MayApart b all s one → happening_entry mine s one ≡ None
    → (accesses_of mine (happen turn s one).accesses ≡ []) × StatesAlike mine all (happen turn s one).state s
silent mine all b sound has s (Steps event) known can none =
    step_silent mine all b.rights (facts_of b.rights b.plains b.memory) has s event (entry_none (mine (job_of s event.unit)) (entry_of s event) none) known.tied known.holds.units (step_keeps b sound s event known can)
silent mine all b sound has s (Changes m) known can none = (refl, record { units = units_same mine s.units; memory = record { long = can.0.long; same = can.1 } })

-- what leaves one entry is alike
both_alike : (mine : Client) (all : List Interval) (b : Beginning) → BeginsSoundly b → HasRegions mine b.rights all → (s t : State) (one other : Happening Event) (c : Beginning) (x : Entry) → Known b s → MayApart b all s one → MayApart c all t other
    → StatesAlike mine all s t → happening_entry mine s one ≡ Some x → happening_entry mine t other ≡ Some x
    → (accesses_of mine (happen turn s one).accesses ≡ accesses_of mine (happen turn t other).accesses) × StatesAlike mine all (happen turn s one).state (happen turn t other).state
both_alike mine all b sound has s t (Changes m) other c x known can could alike first second = absurd (some_none x (sym first))
both_alike mine all b sound has s t (Steps event) (Changes m) c x known can could alike first second = absurd (some_none x (sym second))
both_alike mine all b sound has s t (Steps event) (Steps other) c x known can could alike first second =
    let one = entry_some (mine (job_of s event.unit)) (entry_of s event) x first in
    let two = entry_some (mine (job_of t other.unit)) (entry_of t other) x second in
    let gave = own_alike_law mine all s t event other can could one.0 two.0 alike (one.1 ∙ sym two.1)
    (own_stays mine all b.rights (facts_of b.rights b.plains b.memory) has s event one.0 (step_keeps b sound s event known can)) in
    (ap (accesses_of mine) gave.accesses, gave.states)

steps_alike : (mine : Client) (b c : Beginning) → AreNeighbours mine b c
    → StepsAlike (happening_entry mine) (happen turn) mine (MayApart b (regions_of mine 0 b.rights)) (MayApart c (regions_of mine 0 b.rights)) (Known b) (Known c) (StatesAlike mine (regions_of mine 0 b.rights))
steps_alike mine b c near =
    let all = regions_of mine 0 b.rights in
    let has = has_regions mine b.rights near.unshared in
    record {
      keeps = λ s one known can. known_after b all near.begins s one known can;
      others_keep = λ t one known can. known_after c all near.other_begins t one known can;
      quiet = λ s t one known can alike none.
          let still = silent mine all b near.begins has s one known can none in
          (still.0, states_then mine all (happen turn s one).state s t still.1 alike);
      others_quiet = λ s t one known can alike none.
          let still = silent mine all c near.other_begins (neighbour_has mine b c near) t one known can none in
          (still.0, states_then mine all s t (happen turn t one).state alike (states_back mine all (happen turn t one).state t still.1));
      both = λ s t one other x known there can could alike first second. both_alike mine all b near.begins has s t one other c x known can could alike first second;
    }

-- the beginning
begins_known : (b : Beginning) → BeginsSoundly b → (m : List ℕ) → HasReadOnly b.rights b.memory m → Known b (start_of m b.starts)
begins_known b sound m has = search (rules, arith, start_fine, each_begins, idle_tied)

begin_alike : (mine : Client) (b c : Beginning) → AreNeighbours mine b c → (m n : List ℕ) → Agree (regions_of mine 0 b.rights) m n → StatesAlike mine (regions_of mine 0 b.rights) (start_of m b.starts) (start_of n c.starts)
begin_alike mine b c near m n agree = search (rules, arith, slice_get-map)

all_apart : (b : Beginning) (all : List Interval) (happenings : List (Happening Event)) (s : State) → AllMayHappen ready turn b.rights s happenings → AreLeft all s happenings → AllMay (happen turn) (MayApart b all) s happenings
all_apart b all [] s can left = tt
all_apart b all (Steps event ∷ later) s can left = (can.0, all_apart b all later (step s event).state can.1 left)
all_apart b all (Changes m ∷ later) s can left = search (rules, arith, all_apart b all later (record { memory = m; units = s.units }) can.1 (λ p lies. (left p lies).1))

pub apart_with_others_law : ClientsApartWithOthers
apart_with_others_law mine b c m n near has also agree happenings others found there s t run other left also_left trails =
    let all = regions_of mine 0 b.rights in
    let ran = trails_alike (happening_entry mine) (happen turn) mine (MayApart b all) (MayApart c all) (Known b) (Known c) (StatesAlike mine all) (steps_alike mine b c near)
    (start_of m b.starts) happenings (begins_known b near.begins m has) (all_apart b all happenings (start_of m b.starts) run.allowed left)
    (start_of n c.starts) others (begins_known c near.other_begins n also) (begin_alike mine b c near m n agree) (all_apart c all others (start_of n c.starts) other.allowed also_left) trails in
    let ends : Agree all (state_reached (happen turn) (start_of m b.starts) happenings).memory (state_reached (happen turn) (start_of n c.starts) others).memory = ran.states.memory in
    record {
      accesses = ap (accesses_of mine) run.accesses ∙ (ran.accesses ∙ sym (ap (accesses_of mine) other.accesses));
      memory = subst (λ (w : State). Agree all w.memory t.memory) (sym run.last) (subst (λ (w : State). Agree all (state_reached (happen turn) (start_of m b.starts) happenings).memory w.memory) (sym other.last) ends);
    }

-- runs in which nobody else writes
same_trail : (mine : Client) (s : State) (events : List Event) → entries_of (own_entry mine) step s events ≡ entries_of (happening_entry mine) (happen turn) s (map Steps events)
same_trail mine s [] = refl
same_trail mine s (event ∷ events) = ap (λ entries. with_entry (own_entry mine s event) entries) (same_trail mine (step s event).state events)

nobody_writes : (p : ℕ) (s : State) (events : List Event) → IsLeft turn p s (map Steps events)
nobody_writes p s [] = tt
nobody_writes p s (event ∷ events) = nobody_writes p (step s event).state events

pub apart_anywhere_law : ClientsApartAnywhere
apart_anywhere_law mine b c m n near has also agree events others found there s t run other trails =
    apart_with_others_law mine b c m n near has also agree (map Steps events) (map Steps others) found there s t
    (run_others ready turn b.rights (start_of m b.starts) events found s run) (run_others ready turn c.rights (start_of n c.starts) others there t other)
    (λ p lies. nobody_writes p (start_of m b.starts) events) (λ p lies. nobody_writes p (start_of n c.starts) others)
    (sym (same_trail mine (start_of m b.starts) events) ∙ (trails ∙ same_trail mine (start_of n c.starts) others))

pub read_only_same : (rights : List Rights) (m : List ℕ) → HasReadOnly rights m m
read_only_same rights m = record { long = refl; same = λ p lies out. refl }

pub clients_apart_law : ClientsApart
clients_apart_law mine b c near agree = apart_anywhere_law mine b c b.memory c.memory near (read_only_same b.rights b.memory) (read_only_same c.rights c.memory) agree
