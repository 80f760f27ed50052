-- Along a run of strict jobs, what is watched stays known.
use Rattle.std.proofs.Common.{ℕ, ◌+◌, IsTrue, List, [], ◌∷◌, map, refl, sym, subst}
use Rattle.field_words.specs.declared.access.{Access.Access, Actor.Actor}
use Rattle.machine_plan.specs.Others.{Happening, Steps, Changes, MayHappen, happen, AllMayHappen, OthersRun}
use Rattle.machine_plan.specs.{Glance.glance_result, Regions.Inside, Regions.Interval, Regions.IsSafeAccess, Regions.Rights, Regions.rights_of, Regions.HasReadOnly, Runs.state_reached}
use Rattle.machine_plan.proofs.{Others.Holds, Others.run_holds, Worlds.keeps_result}
use Rattle.list_machine.specs.Lists.{binner_of, renderer_of}
use Rattle.machine.specs.{declared.job.Start.Start, State.State, State.Units, State.job_start, State.units_start, Step.Event, Step.ready, Step.turn, Step.unit_ready, Step.unit_turn}
use Rattle.machine_law.specs.{Jobs.ArePlain, Laws.AreFine, Units.EachAt}
use Rattle.machine_law.proofs.{Begins.each_begins, Owes.start_fine, Owes.units_owe_law}
use Rattle.ends_law.proofs.Plans.{Comes, keeps_both}
use Rattle.strict_law.specs.{Kept.Keeping, Kept.kept_next, Kept.kept_along, Known.Finds, Known.IsHomeOf, Strict.JobStrict}
use Rattle.strict_law.proofs.Begins.{each_begin}
use Rattle.strict_law.proofs.Watch.{Watch, Watches, Says, Known, all_idle, unit_comes}

-- Each step of a unit over this memory comes to what is known again.
abbrev pub GoesOn : (H : Type 0) → Keeping H → (H → Units → Type 0) → List ℕ → Type 0
GoesOn H keeping Q m =
    (u : Units) (unit : Actor) (words : List ℕ) (kept : H) → Q kept u → IsTrue (glance_result (unit_ready u unit) m) → Comes (unit_turn u unit words).who (Q (keeping.step u unit words m kept)) (unit_turn u unit words).plan m

pub record IsNow {H : Type 0} (Q : H → Units → Type 0) (rights : List Rights) (plains : ℕ → List Interval) (first : List ℕ) (kept : H) (s : State) : Type 0 where
  pub holds : Holds rights first (AreFine rights plains first) s
  pub known : Q kept s.units

happens_known : (H : Type 0) (keeping : Keeping H) (Q : H → Units → Type 0) (rights : List Rights) (plains : ℕ → List Interval) (first : List ℕ) → ArePlain rights plains → ((m : List ℕ) → HasReadOnly rights first m → GoesOn H keeping Q m) → (s : State) (one : Happening Event) (kept : H)
    → IsNow Q rights plains first kept s → MayHappen ready rights s one → Q (kept_next keeping s one kept) (happen turn s one).state.units
unfolding ready turn
happens_known H keeping Q rights plains first plain goes s (Steps event) kept now may =
    let one = unit_turn s.units event.unit event.words in
    let L = Inside (rights_of rights one.who.job).region in
    let G = IsSafeAccess rights in
    let P = AreFine rights plains first in
    let Next : Units → Type 0 = Q (keeping.step s.units event.unit event.words s.memory kept) in
    let keeps = (units_owe_law rights plains first plain).keeps s.units s.memory event now.holds.units now.holds.has may in
    let both = keeps_both one.who L G P Next one.plan s.memory keeps (goes s.memory now.holds.has s.units event.unit event.words kept now.known may) in
    let after = keeps_result one.who L G (λ next. P next × Next next) (λ wild. wild.tame refl) one.plan s.memory one.wild both in
    after.1
happens_known H keeping Q rights plains first plain goes s (Changes m) kept now may = now.known

all_known : (H : Type 0) (keeping : Keeping H) (Q : H → Units → Type 0) (rights : List Rights) (plains : ℕ → List Interval) (first : List ℕ) → ArePlain rights plains → ((m : List ℕ) → HasReadOnly rights first m → GoesOn H keeping Q m) → (s : State) (happenings : List (Happening Event))
    (kept : H) → IsNow Q rights plains first kept s → AllMayHappen ready turn rights s happenings → IsNow Q rights plains first (kept_along keeping s happenings kept) (state_reached (happen turn) s happenings)
all_known H keeping Q rights plains first plain goes s [] kept now may = now
all_known H keeping Q rights plains first plain goes s (one ∷ later) kept now may =
    all_known H keeping Q rights plains first plain goes (happen turn s one).state later (kept_next keeping s one kept)
    (record {
      holds = (run_holds ready turn rights first (AreFine rights plains first) (units_owe_law rights plains first plain) (one ∷ []) s now.holds (may.0, tt)).0;
      known = happens_known H keeping Q rights plains first plain goes s one kept now may.0;
    }) may.1

pub run_known : (H : Type 0) (keeping : Keeping H) (Q : H → Units → Type 0) (rights : List Rights) (plains : ℕ → List Interval) (first m : List ℕ) (starts : List Start) (kept : H) → ArePlain rights plains → HasReadOnly rights first m → EachAt (JobStrict rights plains first) 0 starts
    → ((n : List ℕ) → HasReadOnly rights first n → GoesOn H keeping Q n) → Q kept (units_start starts) → (happenings : List (Happening Event)) (found : List Access) (s : State) → OthersRun ready turn rights (record { memory = m; units = units_start starts }) happenings found s
    → IsNow Q rights plains first (kept_along keeping (record { memory = m; units = units_start starts }) happenings kept) s
run_known H keeping Q rights plains first m starts kept plain has all goes known happenings found s run =
    let begin : State = record { memory = m; units = units_start starts } in
    let fine = start_fine rights plains first starts (each_begins rights plains first 0 starts (each_begin rights plains first 0 starts all)) in
    subst (λ (one : State). IsNow Q rights plains first (kept_along keeping begin happenings kept) one) (sym run.last)
    (all_known H keeping Q rights plains first plain goes begin happenings kept (record { holds = record { units = fine; has = has }; known = known }) run.allowed)

-- So it is of what is watched.
each_watched : (w : Watch) → Watches w → (rights : List Rights) (plains : ℕ → List Interval) (first : List ℕ) (k : ℕ) (starts : List Start) → EachAt (JobStrict rights plains first) k starts → EachAt (w.OfJob rights first) k (map job_start starts)
each_watched w laws rights plains first k [] all = tt
each_watched w laws rights plains first k (start ∷ starts) all = (laws.begins rights plains first k start all.0, each_watched w laws rights plains first (k + 1) starts all.1)

-- A shader that stands in each memory of the run stands in this one.
pub runs_find : (rights : List Rights) (first m : List ℕ) → HasReadOnly rights first m → Finds (IsHomeOf rights first) m
runs_find rights first m has j home stands = record { region = (rights_of rights j).region; is = stands m has }

jobs_say : (w : Watch) → Watches w → (rights : List Rights) (first m : List ℕ) → HasReadOnly rights first m → Says w (w.OfJob rights first) (IsHomeOf rights first) m
jobs_say w laws rights first m has = record {
  finds = runs_find rights first m has;
  binner = λ j s free words job on. laws.binner rights first j (binner_of j) s free words m has job on;
  renderer = λ j s free words job on. laws.renderer rights first j (renderer_of j) s free words m has job on;
}

pub run_watched : (w : Watch) → Watches w → (kept : w.Kept) (rights : List Rights) (plains : ℕ → List Interval) (first m : List ℕ) (starts : List Start) → ArePlain rights plains → HasReadOnly rights first m → EachAt (JobStrict rights plains first) 0 starts
    → (happenings : List (Happening Event)) (found : List Access) (s : State) → OthersRun ready turn rights (record { memory = m; units = units_start starts }) happenings found s
    → IsNow (Known w (w.OfJob rights first) (IsHomeOf rights first)) rights plains first (kept_along w.keeping (record { memory = m; units = units_start starts }) happenings (w.keeping.reset kept)) s
run_watched w laws kept rights plains first m starts plain has all happenings found s run =
    run_known w.Kept w.keeping (Known w (w.OfJob rights first) (IsHomeOf rights first)) rights plains first m starts (w.keeping.reset kept) plain has all
    (λ n same u unit words now all_now may. unit_comes w laws (w.OfJob rights first) (IsHomeOf rights first) now u unit words n (jobs_say w laws rights first n same) all_now may)
    (record { jobs = each_watched w laws rights plains first 0 starts all; qpus = all_idle w laws (IsHomeOf rights first) kept 0 12 }) happenings found s run
