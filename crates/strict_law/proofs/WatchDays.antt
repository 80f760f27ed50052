-- Where only strict jobs are admitted, what is watched stays known.
use Rattle.std.proofs.Common.{◌≡◌, ◌≢◌, ◌<◌, ℕ, ◌+◌, Bool, true, IsTrue, List, [], ◌∷◌, ◌++◌, length, Option, Some, None, IfSome, inl, inr, refl, sym, subst, arith}
use Rattle.std.proofs.lemmas.List.{length-append}
use Rattle.std.specs.Prelude.{◌⊎◌}
use Rattle.machine_plan.specs.{declared.launch.Free.Free, declared.launch.Launch.Launch, Glance.glance_result}
use Rattle.machine_plan.specs.Regions.{Every, Inside, IsSafeAccess, rights_of}
use Rattle.machine_plan.proofs.Worlds.{keeps_result}
use Rattle.list_machine.specs.Binner.{binner_ready, binner_plan}
use Rattle.list_machine.specs.Lists.{Lists, Turned, binner_of, renderer_of}
use Rattle.list_machine.specs.Renderer.{renderer_ready, renderer_plan}
use Rattle.qpu_machine.specs.{declared.state.Qpu.Qpu, declared.state.Thread.Thread}
use Rattle.qpu_law.specs.Home.{Home}
use Rattle.machine.specs.State.{Units, item_at, job_start, no_job}
use Rattle.machine.specs.Step.{Event, may, step, ready, turn, unit_turn}
use Rattle.machine_law.specs.Units.{EachAt, UnitsFine}
use Rattle.machine_law.proofs.Owes.{put_each}
use Rattle.ends_law.proofs.Plans.{Comes, keeps_both, weaker}
use Rattle.day_law.specs.Day.{MayHappen, AllMayHappen}
use Rattle.promises.specs.Days.{Admitted, Day, Files, Happening, Steps, Changes, Finds, Admits, Retires, Resets, HasNoneOf, HasNoWork, Job}
use Rattle.promises.specs.Days.{admitted_at, after, dawn, found_at, found_in, happen, rights_in, units_stopped}
use Rattle.day_law.proofs.Own.{solo, Holds, IsQuiet, every_nth, binner_done, renderer_done, if_some, facts}
use Rattle.day_law.proofs.Lists.{each_goes, each_but, each_append, still_at, last_at, without, without_long, without_others}
use Rattle.day_law.proofs.{Known.IsKnown, Known.keeps, Keeping.all_quiet, Keeping.happens, Days.dawn_known}
use Rattle.strict_law.specs.{Days.AdmitsStrict, Days.AdmitStrict, Kept.Keeping, Kept.kept_then, Kept.kept_of, Known.Finds as AreFound, Known.IsHomeOf}
use Rattle.strict_law.proofs.Watch.{Watch, Watches, Wider, TurnsTo, Says, Known, all_idle, each_item, unit_comes}
use Rattle.strict_law.proofs.WatchRuns.{GoesOn}

-- What is known of a job speaks of its own rights, and of the memory in which it was admitted.
abbrev OwnLists : Watch → Admitted → Lists → Type 0
OwnLists w one s = w.OfJob (solo one) one.first 0 s

abbrev OwnHome : Admitted → Home → Type 0
OwnHome one home = IsHomeOf (solo one) one.first 0 home

abbrev pub OfJob : Watch → List Admitted → ℕ → Lists → Type 0
OfJob w jobs j s = IsQuiet s ⊎ ((j < length jobs) × OwnLists w (admitted_at jobs j) s)

abbrev pub IsOf : List Admitted → ℕ → Home → Type 0
IsOf jobs j home = (j < length jobs) × OwnHome (admitted_at jobs j) home

-- What that says in a memory that each job holds.
turned_own : (w : Watch) (jobs : List Admitted) (j : ℕ) (Started : (Home → Type 0) → Launch → Type 0) → Wider Started → (turned : Turned) → j < length jobs → TurnsTo (OwnLists w (admitted_at jobs j)) (Started (OwnHome (admitted_at jobs j))) turned
    → TurnsTo (OfJob w jobs j) (Started (IsOf jobs j)) turned
turned_own w jobs j Started wider turned below own = (
  inr (below, own.0),
  if_some (Started (OwnHome (admitted_at jobs j))) (Started (IsOf jobs j)) turned.launch (λ launch known. wider (OwnHome (admitted_at jobs j)) (IsOf jobs j) (λ home stands. (below, stands)) launch known) own.1,
)

binner_says : (w : Watch) → Watches w → (jobs : List Admitted) (m : List ℕ) → Every (Holds m) jobs → (j : ℕ) (s : Lists) (free : Free) (words : List ℕ) → OfJob w jobs j s → glance_result (binner_ready s free) m ≡ true
    → Comes (binner_of j) (TurnsTo (OfJob w jobs j) (w.Binned (IsOf jobs j))) (binner_plan s free words) m
unfolding binner_ready
binner_says w laws jobs m holds j s free words (inl quiet) on = absurd (binner_done s s.binner.work free quiet.binner on)
binner_says w laws jobs m holds j s free words (inr known) on =
    let one : Admitted = admitted_at jobs j in
    weaker (binner_of j) (TurnsTo (OwnLists w one) (w.Binned (OwnHome one))) (TurnsTo (OfJob w jobs j) (w.Binned (IsOf jobs j))) (λ turned own. turned_own w jobs j w.Binned laws.wider_binned turned known.0 own) (binner_plan s free words) m
    (laws.binner (solo one) one.first 0 (binner_of j) s free words m (every_nth (Holds m) jobs j known.0 holds) known.1 on)

renderer_says : (w : Watch) → Watches w → (jobs : List Admitted) (m : List ℕ) → Every (Holds m) jobs → (j : ℕ) (s : Lists) (free : Free) (words : List ℕ) → OfJob w jobs j s → glance_result (renderer_ready s) m ≡ true
    → Comes (renderer_of j) (TurnsTo (OfJob w jobs j) (w.Rendered words (IsOf jobs j))) (renderer_plan s free words) m
unfolding renderer_ready
renderer_says w laws jobs m holds j s free words (inl quiet) on = absurd (renderer_done s s.renderer.inside m quiet.renderer on)
renderer_says w laws jobs m holds j s free words (inr known) on =
    let one : Admitted = admitted_at jobs j in
    weaker (renderer_of j) (TurnsTo (OwnLists w one) (w.Rendered words (OwnHome one))) (TurnsTo (OfJob w jobs j) (w.Rendered words (IsOf jobs j))) (λ turned own. turned_own w jobs j (w.Rendered words) (laws.wider_rendered words) turned known.0 own) (renderer_plan s free words) m
    (laws.renderer (solo one) one.first 0 (renderer_of j) s free words m (every_nth (Holds m) jobs j known.0 holds) known.1 on)

pub days_find : (jobs : List Admitted) (m : List ℕ) → Every (Holds m) jobs → AreFound (IsOf jobs) m
days_find jobs m holds j home of = record { region = (admitted_at jobs j).rights.region; is = of.1 m (every_nth (Holds m) jobs j of.0 holds) }

-- a unit steps
pub step_known : (H : Type 0) (keeping : Keeping H) (Q : H → Units → Type 0) (d : Day) (event : Event) (kept : H) → IsKnown d → GoesOn H keeping Q d.state.memory → Q kept d.state.units → IsTrue (may d.state event)
    → Q (keeping.step d.state.units event.unit event.words d.state.memory kept) (step d.state event).state.units
unfolding ready turn
step_known H keeping Q d event kept known goes now on =
    let one = unit_turn d.state.units event.unit event.words in
    let L = Inside (rights_of (rights_in d.jobs) one.who.job).region in
    let G = IsSafeAccess (rights_in d.jobs) in
    let P = UnitsFine (facts d.jobs) in
    let m : List ℕ = d.state.memory in
    let Next : Units → Type 0 = Q (keeping.step d.state.units event.unit event.words m kept) in
    let both = keeps_both one.who L G P Next one.plan m (keeps d event known on) (goes d.state.units event.unit event.words kept now on) in
    let next = keeps_result one.who L G (λ after. P after × Next after) (λ wild. wild.tame refl) one.plan m one.wild both in
    next.1

abbrev pub KnownNow : (w : Watch) → Day → w.Kept → Type 0
KnownNow w d kept = Known w (OfJob w d.jobs) (IsOf d.jobs) kept d.state.units

-- What is known of a job stays known, where it is there still.
job_goes : (w : Watch) (jobs others : List Admitted) (j : ℕ) (s : Lists) → (j < length jobs → j < length others) → (j < length jobs → admitted_at others j ≡ admitted_at jobs j) → OfJob w jobs j s → OfJob w others j s
job_goes w jobs others j s wider same (inl quiet) = inl quiet
job_goes w jobs others j s wider same (inr known) = inr (wider known.0, subst (λ one. OwnLists w one s) (sym (same known.0)) known.1)

home_goes : (jobs others : List Admitted) (j : ℕ) (home : Home) → (j < length jobs → j < length others) → (j < length jobs → admitted_at others j ≡ admitted_at jobs j) → IsOf jobs j home → IsOf others j home
home_goes jobs others j home wider same of = (wider of.0, subst (λ one. OwnHome one home) (sym (same of.0)) of.1)

any_slot : (slot : Option Thread) → IfSome slot (λ t. Unit {0})
any_slot None = tt
any_slot (Some t) = tt

each_with : (N : Qpu → Type 0) (P : ℕ → Qpu → Type 0) (n : ℕ) (qpus : List Qpu) → Every N qpus → EachAt P n qpus → EachAt (λ k q. N q × P k q) n qpus
each_with N P n [] first other = tt
each_with N P n (q ∷ qpus) first other = ((first.0, other.0), each_with N P (n + 1) qpus first.1 other.1)

-- A job is admitted.
admits : (w : Watch) → Watches w → (d : Day) (job : Job) (kept : w.Kept) → IsKnown d → KnownNow w d kept → AdmitsStrict d (Admits job) → KnownNow w (happen d (Admits job)) kept
admits w laws d job kept known now begins =
    let one : Admitted = record { rights = job.rights; plain = job.plain; first = d.state.memory } in
    let jobs : List Admitted = d.jobs in
    let all : List Admitted = jobs ++ one ∷ [] in
    let long : length all ≡ length jobs + 1 = length-append jobs (one ∷ []) in
    let count = known.count in
    let wider : (j : ℕ) → j < length jobs → j < length all = λ j below. omega (arith, below, long) in
    record {
      jobs = each_append (OfJob w all) 0 d.state.units.jobs (job_start job.start)
          (each_goes (OfJob w jobs) (OfJob w all) 0 d.state.units.jobs (λ j lists from there. job_goes w jobs all j lists (wider j) (still_at jobs one j) there) now.jobs)
          (λ j is. inr (omega (arith, is, count, long), subst (λ own. OwnLists w own (job_start job.start)) (sym (last_at jobs one j (omega (arith, is, count)))) (laws.begins (job.rights ∷ []) (λ number. job.plain) d.state.memory 0 job.start begins)));
      qpus = each_goes (w.OfQpu (IsOf jobs) kept) (w.OfQpu (IsOf all) kept) 0 d.state.units.qpus
          (λ k q from there. laws.moves (IsOf jobs) (IsOf all) (λ j. Unit {0}) (λ j home any of. home_goes jobs all j home (wider j) (still_at jobs one j) of) kept k q (any_slot q.first) (any_slot q.other) there) now.qpus;
    }

-- A job retires.
retires : (w : Watch) → Watches w → (d : Day) (j : ℕ) (kept : w.Kept) → KnownNow w d kept → HasNoWork d.state.units j → KnownNow w (happen d (Retires j)) kept
retires w laws d j kept now none =
    let jobs : List Admitted = d.jobs in
    let rest : List Admitted = without jobs j in
    let wider : (i : ℕ) → i < length jobs → i < length rest = λ i below. omega (arith, below, without_long jobs j) in
    let P : ℕ → Qpu → Type 0 = w.OfQpu (IsOf jobs) kept in
    record {
      jobs = each_but (OfJob w jobs) (OfJob w rest) 0 j d.state.units.jobs no_job (λ i. inl (record { binner = none.binner; renderer = none.renderer }))
          (λ i lists other there. job_goes w jobs rest i lists (wider i) (λ below. without_others jobs j i (λ e. other (omega (arith, e)))) there) now.jobs;
      qpus = each_goes (λ k q. HasNoneOf j q × P k q) (w.OfQpu (IsOf rest) kept) 0 d.state.units.qpus
          (λ k q from both. laws.moves (IsOf jobs) (IsOf rest) (λ i. i ≢ j) (λ i home other of. home_goes jobs rest i home (wider i) (λ below. without_others jobs j i other) of) kept k q both.0.first both.0.other both.1)
          (each_with (HasNoneOf j) P 0 d.state.units.qpus none.qpus now.qpus);
    }

-- A program finds what the last one left in the files.
finds : (w : Watch) → Watches w → (jobs : List Admitted) (kept : w.Kept) (u : Units) (k : ℕ) (second : Bool) (files : Files) (found : Option Qpu) → IfSome found (w.OfQpu (IsOf jobs) kept k) → Known w (OfJob w jobs) (IsOf jobs) kept u
    → Known w (OfJob w jobs) (IsOf jobs) kept (found_at u k second files found)
finds w laws jobs kept u k second files None one now = now
finds w laws jobs kept u k second files (Some q) one now = record {
  jobs = now.jobs;
  qpus = put_each (w.OfQpu (IsOf jobs) kept) 0 k k u.qpus (found_in second files q) (omega arith) (laws.found (IsOf jobs) second files kept k q one) now.qpus;
}

-- The chip is reset: no job has work left.
stays_quiet : (w : Watch) (jobs : List Admitted) (j : ℕ) (s : Lists) → (facts []).OfJob j s → OfJob w jobs j s
stays_quiet w jobs j s (inl quiet) = inl quiet
stays_quiet w jobs j s (inr known) = let below = known.0 in absurd (omega (arith, below))

-- Whatever happens.
happens_known : (w : Watch) → Watches w → (d : Day) (one : Happening) (kept : w.Kept) → IsKnown d → KnownNow w d kept → MayHappen d one → AdmitsStrict d one → KnownNow w (happen d one) (kept_then w.keeping d one kept)
happens_known w laws d (Steps event) kept known now on begins =
    let says : Says w (OfJob w d.jobs) (IsOf d.jobs) d.state.memory = record { finds = days_find d.jobs d.state.memory known.holds; binner = binner_says w laws d.jobs d.state.memory known.holds; renderer = renderer_says w laws d.jobs d.state.memory known.holds } in
    step_known w.Kept w.keeping (Known w (OfJob w d.jobs) (IsOf d.jobs)) d event kept known (λ u unit words was all may_step. unit_comes w laws (OfJob w d.jobs) (IsOf d.jobs) was u unit words d.state.memory says all may_step) now on
happens_known w laws d (Changes m) kept known now changed begins = now
happens_known w laws d (Finds k second files) kept known now may_find begins =
    finds w laws d.jobs kept d.state.units k second files (item_at d.state.units.qpus k) (each_item (w.OfQpu (IsOf d.jobs) kept) 0 k k d.state.units.qpus (omega arith) now.qpus) now
happens_known w laws d (Admits job) kept known now may_admit begins = subst (KnownNow w (happen d (Admits job))) (sym (laws.admitted (length d.state.units.jobs) kept)) (admits w laws d job kept known now begins)
happens_known w laws d (Retires j) kept known now none begins = retires w laws d j kept now none
happens_known w laws d Resets kept known now may_reset begins = record {
  jobs = each_goes (facts []).OfJob (OfJob w d.jobs) 0 (units_stopped d.state.units).jobs (λ j s from quiet. stays_quiet w d.jobs j s quiet) (all_quiet [] 0 d.state.units.jobs);
  qpus = all_idle w laws (IsOf d.jobs) kept 0 12;
}

pub record IsLast (w : Watch) (d : Day) (kept : w.Kept) : Type 0 where
  pub known : IsKnown d
  pub now : KnownNow w d kept

all_known : (w : Watch) → Watches w → (d : Day) (happenings : List Happening) (kept : w.Kept) → IsKnown d → KnownNow w d kept → AllMayHappen d happenings → AdmitStrict d happenings → IsLast w (after d happenings) (kept_of w.keeping d happenings kept)
all_known w laws d [] kept known now may begins = record { known = known; now = now }
all_known w laws d (one ∷ later) kept known now may begins =
    all_known w laws (happen d one) later (kept_then w.keeping d one kept) (happens d one known may.0) (happens_known w laws d one kept known now may.0 begins.0) may.1 begins.1

pub days_watched : (w : Watch) → Watches w → (kept : w.Kept) (memory : List ℕ) (happenings : List Happening) → AllMayHappen (dawn memory) happenings → AdmitStrict (dawn memory) happenings
    → IsLast w (after (dawn memory) happenings) (kept_of w.keeping (dawn memory) happenings (w.keeping.reset kept))
days_watched w laws kept memory happenings may begins =
    all_known w laws (dawn memory) happenings (w.keeping.reset kept) (dawn_known memory) (record { jobs = tt; qpus = all_idle w laws (IsOf []) kept 0 12 }) may begins
