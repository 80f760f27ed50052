-- Two days with the same trail of a client end alike to it.
use Rattle.std.proofs.Common.{◌≡◌, ◌≢◌, ◌≤◌, ◌<◌, ℕ, zero, suc, ◌+◌, inl, inr, Bool, true, false, if◌then◌else◌, List, [], ◌∷◌, ◌++◌, length, map, Option, Some, None, IfSome, refl, sym, ◌∙◌, ap, subst, arith, slice_index}
use Rattle.std.proofs.lemmas.{Bool.false≢true, Bool.cases_lt, List.length-map, Option.slice_get-map}
use Rattle.std.specs.Prelude.{drop, option_map, slice_index_or}
use Rattle.machine_plan.specs.{Memory.bytes_at, Runs.state_reached, Runs.found_by}
use Rattle.machine_plan.specs.Regions.{Interval, Inside}
use Rattle.machine_plan.proofs.Runs.{every-weaker}
use Rattle.list_machine.specs.Lists.{Lists, binner_ended, renderer_ended}
use Rattle.qpu_machine.specs.{declared.state.Qpu.Qpu, declared.state.Request.Request, declared.state.Thread.Thread, Qpu.slot_of}
use Rattle.machine.specs.State.{State, Units, item_at, job_start}
use Rattle.machine.specs.Step.{may}
use Rattle.apart_law.specs.Part.{Part, part_of, thread_seen, StatesAlike, UnitsAlike}
use Rattle.promises.specs.Days.{Admitted, Day, Files, Happening, Steps, Changes, Finds, Admits, Retires, Resets, Job, after, dawn, found_at, found_in}
use Rattle.promises.specs.Days.{happen, no_rights, rights_in, with_files}
use Rattle.promises.specs.{Trail.Client, Trail.accesses_of, Trail.entry_of, Apart.IsUnshared}
use Rattle.apart_law.specs.{Steps.StepsAlike, Tied.AreTied, Tied.IsTied, Tied.QpuTied}
use Rattle.apart_law.proofs.{Own.own_alike_law, Tied.idle_tied, Silent.keep_tied_law}
use Rattle.apart_law.proofs.Parts.{sees_none, chosen_of}
use Rattle.apart_law.proofs.Places.{map_alike, map_at, map_same, put_alike, put_elsewhere, put_every, every_at}
use Rattle.apart_law.proofs.Trails.{AllMay, trails_alike}
use Rattle.machine_law.proofs.Apart.{agree_same, entry_none, entry_some, has_regions, own_stays, states_back, states_then, step_silent, units_same}
use Rattle.day_law.specs.Alike.{accesses_made, all_made}
use Rattle.day_law.proofs.{Days.dawn_known, Keeping.happens, Known.IsKnown, Known.keeps, Own.facts, Alike.more_rights_are, Alike.rights_without}
use Rattle.day_apart.specs.Apart.{Note, held_in, note_of, is_own_thread, is_own_in, is_own, own_note, day_moved, own_regions, MayApart, AllMayApart, DaysApart}
use Rattle.day_apart.proofs.Regions.{regions_same, regions_more, regions_less, items_more, both_items}

-- What is known of a day, and of two that are alike to the client.
record KnownApart (mine : Client) (d : Day) : Type 0 where
  pub known : IsKnown d
  pub tied : AreTied d.state.units.qpus
  pub unshared : IsUnshared mine (rights_in d.jobs)

record DaysAlike (mine : Client) (d e : Day) : Type 0 where
  pub states : StatesAlike mine (own_regions mine d) d.state e.state
  pub rights : (j : ℕ) → mine j ≡ true → item_at (rights_in d.jobs) j ≡ item_at (rights_in e.jobs) j

-- over the regions of the one as over those of the other
states_over : (mine : Client) (d e : Day) (s t : State) → ((j : ℕ) → mine j ≡ true → item_at (rights_in d.jobs) j ≡ item_at (rights_in e.jobs) j) → StatesAlike mine (own_regions mine e) s t → StatesAlike mine (own_regions mine d) s t
states_over mine d e s t same alike =
    record { units = alike.units; memory = record { long = alike.memory.long; same = λ p lies. alike.memory.same p (regions_same mine (rights_in d.jobs) (rights_in e.jobs) same p lies) } }

alike_back : (mine : Client) (d e : Day) → DaysAlike mine d e → DaysAlike mine e d
alike_back mine d e alike =
    let rights : (j : ℕ) → mine j ≡ true → item_at (rights_in e.jobs) j ≡ item_at (rights_in d.jobs) j = λ j own. sym (alike.rights j own) in
    record { states = states_over mine e d e.state d.state rights (states_back mine (own_regions mine d) d.state e.state alike.states); rights = rights }

alike_then : (mine : Client) (d e f : Day) → DaysAlike mine d e → DaysAlike mine e f → DaysAlike mine d f
alike_then mine d e f first second = record {
  states = states_then mine (own_regions mine d) d.state e.state f.state first.states (states_over mine d e e.state f.state first.rights second.states);
  rights = λ j own. first.rights j own ∙ second.rights j own;
}

-- notes
what_is : (d : Day) (one : Happening) → (note_of d one).what ≡ one
what_is d (Steps event) = refl
what_is d (Changes m) = refl
what_is d (Finds k second files) = refl
what_is d (Admits job) = refl
what_is d (Retires j) = refl
what_is d Resets = refl

-- what a program finds, in the client's part
files_seen : (mine : Client) (files : Files) (slot : Option Thread) → thread_seen mine (option_map (with_files files) slot) ≡ option_map (with_files files) (thread_seen mine slot)
files_seen mine files None = refl
files_seen mine files (Some t) = sym (chosen_of (option_map (with_files files)) (mine t.job) (Some t) None)

abbrev part_found : Bool → Files → Part → Part
part_found second files p = record p {
  first = if second then p.first else option_map (with_files files) p.first;
  other = if second then option_map (with_files files) p.other else p.other;
}

found_part : (mine : Client) (second : Bool) (files : Files) (q : Qpu) → part_of mine (found_in second files q) ≡ part_found second files (part_of mine q)
found_part mine true files q = λ i. record { first = thread_seen mine q.first; other = files_seen mine files q.other i; queue0 = (part_of mine q).queue0; queue1 = (part_of mine q).queue1 }
found_part mine false files q = λ i. record { first = files_seen mine files q.first i; other = thread_seen mine q.other; queue0 = (part_of mine q).queue0; queue1 = (part_of mine q).queue1 }

other_seen : (mine : Client) (files : Files) (slot : Option Thread) → is_own_thread mine slot ≡ false → thread_seen mine (option_map (with_files files) slot) ≡ thread_seen mine slot
other_seen mine files None other = refl
other_seen mine files (Some t) other = sees_none mine (with_files files t) other ∙ sym (sees_none mine t other)

other_found : (mine : Client) (second : Bool) (files : Files) (q : Qpu) → is_own_thread mine (slot_of q second) ≡ false → part_of mine (found_in second files q) ≡ part_of mine q
other_found mine true files q other = λ i. record { first = thread_seen mine q.first; other = other_seen mine files q.other other i; queue0 = (part_of mine q).queue0; queue1 = (part_of mine q).queue1 }
other_found mine false files q other = λ i. record { first = other_seen mine files q.first other i; other = thread_seen mine q.other; queue0 = (part_of mine q).queue0; queue1 = (part_of mine q).queue1 }

-- Requests stay tied.
some_files : (files : Files) (r : Request) (slot : Option Thread) → IfSome slot (λ t. t.job ≡ r.job) → IfSome (option_map (with_files files) slot) (λ t. t.job ≡ r.job)
some_files files r None is = tt
some_files files r (Some t) is = is

tied_slot : (second : Bool) (files : Files) (q : Qpu) (r : Request) (other : Bool) → IfSome (slot_of q other) (λ t. t.job ≡ r.job) → IfSome (slot_of (found_in second files q) other) (λ t. t.job ≡ r.job)
tied_slot true files q r true is = some_files files r q.other is
tied_slot true files q r false is = is
tied_slot false files q r true is = is
tied_slot false files q r false is = some_files files r q.first is

found_tied : (second : Bool) (files : Files) (q : Qpu) → QpuTied q → QpuTied (found_in second files q)
found_tied second files q tied = record {
  queue0 = every-weaker (IsTied q) (IsTied (found_in second files q)) (λ r is. tied_slot second files q r r.second is) q.queue0.items tied.queue0;
  queue1 = every-weaker (IsTied q) (IsTied (found_in second files q)) (λ r is. tied_slot second files q r r.second is) q.queue1.items tied.queue1;
}

found_all_tied : (u : Units) (k : ℕ) (second : Bool) (files : Files) (found : Option Qpu) → item_at u.qpus k ≡ found → AreTied u.qpus → AreTied (found_at u k second files found).qpus
found_all_tied u k second files None is tied = tied
found_all_tied u k second files (Some q) is tied = put_every QpuTied u.qpus k (found_in second files q) (found_tied second files q (every_at QpuTied u.qpus k q is tied)) tied

tied_after : (d : Day) (one : Happening) → AreTied d.state.units.qpus → AreTied (happen d one).state.units.qpus
tied_after d (Steps event) tied = keep_tied_law d.state event tied
tied_after d (Changes m) tied = tied
tied_after d (Finds k second files) tied = found_all_tied d.state.units k second files (item_at d.state.units.qpus k) refl tied
tied_after d (Admits job) tied = tied
tied_after d (Retires j) tied = tied
tied_after d Resets tied = idle_tied 12

known_after : (mine : Client) (d : Day) (one : Happening) → KnownApart mine d → MayApart mine d one → KnownApart mine (happen d one)
known_after mine d one known can = record { known = happens d one known.known can.may; tied = tied_after d one known.tied; unshared = can.unshared }

-- What isn't the client's leaves its part alone.
abbrev IsSilent : Client → Day → Happening → Type 0
IsSilent mine d one = (accesses_of mine (accesses_made d one) ≡ []) × DaysAlike mine (happen d one) d

silent_found : (mine : Client) (u : Units) (k : ℕ) (second : Bool) (files : Files) (found : Option Qpu) → item_at u.qpus k ≡ found → is_own_in mine second found ≡ false → UnitsAlike mine (found_at u k second files found) u
silent_found mine u k second files None is other = units_same mine u
silent_found mine u k second files (Some q) is other = record { jobs = λ j own. refl; qpus = map_same (part_of mine) u.qpus k q (found_in second files q) is (other_found mine second files q other) }

not_own : (mine : Client) (j k : ℕ) → mine j ≡ true → mine k ≡ false → j ≢ k
not_own mine j k own other e = false≢true (sym other ∙ (sym (ap mine e) ∙ own))

rights_long : (jobs : List Admitted) → length (rights_in jobs) ≡ length jobs
rights_long jobs = length-map jobs (λ (one : Admitted). one.rights)

silent : (mine : Client) (d : Day) (one : Happening) → KnownApart mine d → MayApart mine d one → is_own mine d one ≡ false → IsSilent mine d one
silent mine d (Steps event) known can other =
    let gave = step_silent mine (own_regions mine d) (rights_in d.jobs) (facts d.jobs) (has_regions mine (rights_in d.jobs) known.unshared) d.state event other known.tied known.known.units (keeps d event known.known can.may) in
    (gave.0, record { states = gave.1; rights = λ j own. refl })
silent mine d (Changes m) known can other =
    (refl, record { states = record { units = units_same mine d.state.units; memory = record { long = can.may.long; same = can.leaves } }; rights = λ j own. refl })
silent mine d (Finds k second files) known can other =
    let units = silent_found mine d.state.units k second files (item_at d.state.units.qpus k) refl other in
    (refl, record { states = record { units = units; memory = agree_same (own_regions mine d) d.state.memory }; rights = λ j own. refl })
silent mine d (Admits job) known can other =
    let one : Admitted = record { rights = job.rights; plain = job.plain; first = d.state.memory } in
    let apart : (j : ℕ) → mine j ≡ true → j ≢ length d.jobs = λ j own. not_own mine j (length d.jobs) own other in (
      refl,
      record {
        states = record {
          units = record { jobs = λ j own. items_more d.state.units.jobs (job_start job.start) j (λ e. apart j own (e ∙ known.known.count)); qpus = refl };
          memory = agree_same (own_regions mine (happen d (Admits job))) d.state.memory;
        };
        rights = λ j own. ap (λ rs. item_at rs j) (more_rights_are d.jobs one) ∙ items_more (rights_in d.jobs) job.rights j (λ e. apart j own (e ∙ rights_long d.jobs));
      },
    )
silent mine d (Retires i) known can other = (
  refl,
  record {
    states = record { units = units_same mine d.state.units; memory = agree_same (own_regions mine (happen d (Retires i))) d.state.memory };
    rights = λ j own. ap (λ rs. item_at rs j) (rights_without d.jobs i) ∙ put_elsewhere (rights_in d.jobs) i j no_rights (not_own mine j i own other);
  },
)
silent mine d Resets known can other = absurd (false≢true (sym other))

-- What is the client's in both days is done alike.
abbrev AreDoneAlike : Client → Day → Day → Happening → Type 0
AreDoneAlike mine d e one = (accesses_of mine (accesses_made d one) ≡ accesses_of mine (accesses_made e one)) × DaysAlike mine (happen d one) (happen e one)

both_found : (mine : Client) (u v : Units) (k : ℕ) (second : Bool) (files : Files) (one other : Option Qpu) → item_at u.qpus k ≡ one → item_at v.qpus k ≡ other → is_own_in mine second one ≡ true → is_own_in mine second other ≡ true → UnitsAlike mine u v
    → UnitsAlike mine (found_at u k second files one) (found_at v k second files other)
both_found mine u v k second files None other is also own too alike = absurd (false≢true own)
both_found mine u v k second files (Some q) None is also own too alike = absurd (false≢true too)
both_found mine u v k second files (Some q) (Some r) is also own too alike = record {
  jobs = alike.jobs;
  qpus = map_alike (part_of mine) u.qpus v.qpus k (found_in second files q) (found_in second files r) alike.qpus
      (found_part mine second files q ∙ (ap (part_found second files) (map_at (part_of mine) u.qpus v.qpus k q r alike.qpus is also) ∙ sym (found_part mine second files r)));
}

held_byte : (m k : List ℕ) (place size p : ℕ) → place ≤ p → p < place + size → bytes_at m place size ≡ bytes_at k place size → slice_index m p ≡ slice_index k p
unfolding bytes_at
held_byte m k place zero p from upto same = absurd (omega (arith, from, upto))
held_byte m k place (suc n) p from upto same = elim (cases_lt place p) [
  | inl on ↦ held_byte m k (suc place) n p (omega (arith, on)) (omega (arith, upto)) (ap (λ l. drop 1 l) same)
  | inr here ↦ (let e : place ≡ p = omega (arith, from, here) in subst (λ q. slice_index m q ≡ slice_index k q) e (ap (λ l. slice_index_or l 0 0) same))
]

held_same : (region : List Interval) (m k : List ℕ) (p : ℕ) → held_in m region ≡ held_in k region → Inside region p 1 → slice_index m p ≡ slice_index k p
held_same [] m k p same lies = absurd lies
held_same (i ∷ region) m k p same (inl here) = held_byte m k i.place i.size p here.from (let upto = here.upto in omega (arith, upto)) (ap (λ l. slice_index_or l 0 []) same)
held_same (i ∷ region) m k p same (inr later) = held_same region m k p (ap (λ l. drop 1 l) same) later

both_admit : (mine : Client) (d e : Day) (job : Job) → KnownApart mine d → KnownApart mine e → length d.jobs ≡ length e.jobs → held_in d.state.memory job.rights.region ≡ held_in e.state.memory job.rights.region → DaysAlike mine d e
    → DaysAlike mine (happen d (Admits job)) (happen e (Admits job))
both_admit mine d e job known also number held alike =
    let m : List ℕ = d.state.memory in
    let k : List ℕ = e.state.memory in
    let one : Admitted = record { rights = job.rights; plain = job.plain; first = m } in
    let other : Admitted = record { rights = job.rights; plain = job.plain; first = k } in
    let lists : length d.state.units.jobs ≡ length e.state.units.jobs = known.known.count ∙ (number ∙ sym also.known.count) in
    let long : length (rights_in d.jobs) ≡ length (rights_in e.jobs) = rights_long d.jobs ∙ (number ∙ sym (rights_long e.jobs)) in
    record {
      states = record {
        units = record { jobs = λ j own. both_items d.state.units.jobs e.state.units.jobs (job_start job.start) j lists (alike.states.units.jobs j own); qpus = alike.states.units.qpus };
        memory = record {
          long = alike.states.memory.long;
          same = λ p lies. elim (regions_more mine d.jobs one p lies) [ inl old ↦ alike.states.memory.same p old | inr new ↦ held_same job.rights.region m k p held new ];
        };
      };
      rights = λ j own. ap (λ rs. item_at rs j) (more_rights_are d.jobs one) ∙ (both_items (rights_in d.jobs) (rights_in e.jobs) job.rights j long (alike.rights j own) ∙ sym (ap (λ rs. item_at rs j) (more_rights_are e.jobs other)));
    }

both_retire : (mine : Client) (d e : Day) (i : ℕ) → DaysAlike mine d e → DaysAlike mine (happen d (Retires i)) (happen e (Retires i))
both_retire mine d e i alike = record {
  states = record { units = alike.states.units; memory = record { long = alike.states.memory.long; same = λ p lies. alike.states.memory.same p (regions_less mine d.jobs i p lies) } };
  rights = λ j own. ap (λ rs. item_at rs j) (rights_without d.jobs i) ∙ (put_alike (rights_in d.jobs) (rights_in e.jobs) i j no_rights (alike.rights j own) ∙ sym (ap (λ rs. item_at rs j) (rights_without e.jobs i)));
}

both_reset : (mine : Client) (d e : Day) → DaysAlike mine d e → DaysAlike mine (happen d Resets) (happen e Resets)
both_reset mine d e alike =
    let ended : Lists → Lists = λ s. binner_ended (renderer_ended s) in
    let jobs : (j : ℕ) → mine j ≡ true → item_at (map ended d.state.units.jobs) j ≡ item_at (map ended e.state.units.jobs) j =
    λ j own. slice_get-map ended d.state.units.jobs j ∙ (ap (option_map ended) (alike.states.units.jobs j own) ∙ sym (slice_get-map ended e.state.units.jobs j)) in
    record { states = record { units = record { jobs = jobs; qpus = refl }; memory = alike.states.memory }; rights = alike.rights }

both_same : (mine : Client) (d e : Day) (one : Happening) → KnownApart mine d → KnownApart mine e → MayApart mine d one → MayApart mine e one → DaysAlike mine d e → is_own mine d one ≡ true → is_own mine e one ≡ true → note_of d one ≡ note_of e one
    → AreDoneAlike mine d e one
both_same mine d e (Steps event) known also can could alike own too same =
    let all : List Interval = own_regions mine d in
    let entries : entry_of d.state event ≡ entry_of e.state event = λ i. record { unit = event.unit; second = (same i).second; words = event.words; starts = (same i).starts } in
    let gave = own_alike_law mine all d.state e.state event event can.may could.may own too alike.states entries
    (own_stays mine all (rights_in d.jobs) (facts d.jobs) (has_regions mine (rights_in d.jobs) known.unshared) d.state event own (keeps d event known.known can.may)) in
    (ap (accesses_of mine) gave.accesses, record { states = gave.states; rights = alike.rights })
both_same mine d e (Changes m) known also can could alike own too same = absurd (false≢true own)
both_same mine d e (Finds k second files) known also can could alike own too same =
    let units = both_found mine d.state.units e.state.units k second files (item_at d.state.units.qpus k) (item_at e.state.units.qpus k) refl refl own too alike.states.units in
    (refl, record { states = record { units = units; memory = alike.states.memory }; rights = alike.rights })
both_same mine d e (Admits job) known also can could alike own too same = (refl, both_admit mine d e job known also (ap (λ (n : Note). n.number) same) (ap (λ (n : Note). n.held) same) alike)
both_same mine d e (Retires i) known also can could alike own too same = (refl, both_retire mine d e i alike)
both_same mine d e Resets known also can could alike own too same = (refl, both_reset mine d e alike)

-- so step by step
abbrev Both : Client → Day → Day → Happening → Happening → Type 0
Both mine d e one other = (accesses_of mine (accesses_made d one) ≡ accesses_of mine (accesses_made e other)) × DaysAlike mine (happen d one) (happen e other)

both_alike : (mine : Client) (d e : Day) (one other : Happening) (x : Note) → KnownApart mine d → KnownApart mine e → MayApart mine d one → MayApart mine e other → DaysAlike mine d e → own_note mine d one ≡ Some x → own_note mine e other ≡ Some x
    → Both mine d e one other
both_alike mine d e one other x known also can could alike first second =
    let left = entry_some (is_own mine d one) (note_of d one) x first in
    let right = entry_some (is_own mine e other) (note_of e other) x second in
    let is : one ≡ other = sym (what_is d one) ∙ (ap (λ (n : Note). n.what) (left.1 ∙ sym right.1) ∙ what_is e other) in
    subst (λ h. MayApart mine e h → is_own mine e h ≡ true → note_of d one ≡ note_of e h → Both mine d e one h) is
    (λ could too same. both_same mine d e one known also can could alike left.0 too same) could right.0 (left.1 ∙ sym right.1)

steps_alike : (mine : Client) → StepsAlike (own_note mine) day_moved mine (MayApart mine) (MayApart mine) (KnownApart mine) (KnownApart mine) (DaysAlike mine)
steps_alike mine = record {
  keeps = λ d one known can. known_after mine d one known can;
  others_keep = λ d one known can. known_after mine d one known can;
  quiet = λ d e one known can alike none.
      let gave = silent mine d one known can (entry_none (is_own mine d one) (note_of d one) none) in
      (gave.0, alike_then mine (happen d one) d e gave.1 alike);
  others_quiet = λ d e one known can alike none.
      let gave = silent mine e one known can (entry_none (is_own mine e one) (note_of e one) none) in
      (gave.0, alike_then mine d e (happen e one) alike (alike_back mine (happen e one) e gave.1));
  both = λ d e one other x known also can could alike first second. both_alike mine d e one other x known also can could alike first second;
}

-- the whole days
all_may : (mine : Client) (d : Day) (happenings : List Happening) → AllMayApart mine d happenings → AllMay day_moved (MayApart mine) d happenings
all_may mine d [] can = tt
all_may mine d (one ∷ later) can = (can.0, all_may mine (happen d one) later can.1)

reached_is : (d : Day) (happenings : List Happening) → state_reached day_moved d happenings ≡ after d happenings
reached_is d [] = refl
reached_is d (one ∷ later) = reached_is (happen d one) later

found_is : (d : Day) (happenings : List Happening) → found_by day_moved d happenings ≡ all_made d happenings
found_is d [] = refl
found_is d (one ∷ later) = ap (λ l. accesses_made d one ++ l) (found_is (happen d one) later)

dawn_apart : (mine : Client) (m : List ℕ) → KnownApart mine (dawn m)
dawn_apart mine m = record { known = dawn_known m; tied = idle_tied 12; unshared = λ j k p own other lies writes. lies }

pub days_apart_law : DaysApart
days_apart_law mine m n long happenings others can could trails =
    let ran = trails_alike (own_note mine) day_moved mine (MayApart mine) (MayApart mine) (KnownApart mine) (KnownApart mine) (DaysAlike mine) (steps_alike mine) (dawn m) happenings (dawn_apart mine m) (all_may mine (dawn m) happenings can)
    (dawn n) others (dawn_apart mine n) (record { states = record { units = units_same mine (dawn m).state.units; memory = record { long = long; same = λ p lies. absurd lies } }; rights = λ j own. refl }) (all_may mine (dawn n) others could) trails in
    let ends : DaysAlike mine (after (dawn m) happenings) (after (dawn n) others) =
    subst (λ d. DaysAlike mine d (after (dawn n) others)) (reached_is (dawn m) happenings) (subst (DaysAlike mine (state_reached day_moved (dawn m) happenings)) (reached_is (dawn n) others) ran.states) in
    record {
      accesses = sym (ap (accesses_of mine) (found_is (dawn m) happenings)) ∙ (ran.accesses ∙ ap (accesses_of mine) (found_is (dawn n) others));
      memory = ends.states.memory;
    }
