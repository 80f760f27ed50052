-- What is left for a job when it is admitted, and whatever happens then.
use Rattle.std.proofs.Common.{◌≡◌, ◌≢◌, ◌≤◌, ◌<◌, ℕ, zero, suc, ◌+◌, ◌-◌, ◌*◌, ◌==◌, ◌&&◌, ◌||◌, Bool, true, false, IsTrue, if◌then◌else◌, List, [], ◌∷◌, ◌++◌, length, map, Option, Some, None, IfSome, refl, sym, ◌∙◌, ap, subst, arith}
use Rattle.std.proofs.lemmas.Grind.{common_steps}
use Rattle.std.proofs.lemmas.Bool.{and_parts, false≢true, Decides.nat_tests}
use Rattle.std.proofs.lemmas.List.{length-append, Sums.sum_by-cons}
use Rattle.std.specs.Prelude.{option_map}
use Rattle.machine_plan.specs.Regions.{Every, Inside, Rights, rights_of, IsSafeAccess}
use Rattle.machine_plan.proofs.{Runs.every-weaker, Worlds.keeps_result}
use Rattle.list_law.proofs.Logs.{same}
use Rattle.list_machine.specs.{Binner.has_binner_work, Lists.Lists, Lists.binner_ended, Lists.renderer_ended, Renderer.has_renderer_work}
use Rattle.qpu_machine.specs.{declared.state.Qpu.Qpu, declared.state.Request.Request, declared.state.Thread.Thread}
use Rattle.machine.specs.State.{Units, item_at, job_at, job_start}
use Rattle.machine.specs.Step.{Event, may, step, ready, turn, unit_turn}
use Rattle.machine_law.specs.Units.{QpuFine, UnitsFine}
use Rattle.ends_law.specs.Left.{EachWithin, SlotLeft, request_count, QpuLeft, CountedEnds, UnitsLeft, StepLess}
use Rattle.promises.specs.Days.{Admitted, Day, Files, Happening, Steps, Changes, Finds, Admits, Retires, Resets, HasNoneOf, HasNoWork, Job}
use Rattle.promises.specs.Days.{admitted_at, after, dawn, found_at, found_in, happen, joined_by, rights_in, units_stopped, with_files}
use Rattle.promises.specs.Steps.{one_if}
use Rattle.ends_law.proofs.{Begins.job_ends, Begins.idle_left, Machine.unit_less, Plans.keeps_both, Processors.still_left, Runs.one_more, Shares.Hole, Shares.hole_at}
use Rattle.day_law.specs.Day.{MayHappen, AllMayHappen}
use Rattle.day_law.proofs.{Days.all_happen, Days.dawn_known, Keeping.below_itself, Keeping.or_none, Keeping.happens, Known.IsKnown, Known.keeps}
use Rattle.day_law.proofs.Lists.{still_at, last_at, without, without_long, without_others}
use Rattle.day_law.proofs.Own.{Holds, IsQuiet, facts, every_nth}
use Rattle.day_ends.specs.Ends.{own_step, own_stay, own_steps, own_stays, IsShortNow, AdmittedJobsEnd}

-- what is so of each memory in which the job still has what it may only read
abbrev Keep : Admitted → List ℕ → Type 0
Keep one m = Holds m one

-- Job j alone is counted.
abbrev Just : ℕ → ℕ → Bool
Just j = λ i. i == j

abbrev Own : Admitted → (j w n : ℕ) → Units → Type 0
Own one j w n u = UnitsLeft (λ i. one.rights) (Keep one) (Just j) w n u

abbrev OwnLists : Admitted → (j w : ℕ) → ℕ → ℕ → Lists → Type 0
OwnLists one j w = CountedEnds (λ i. one.rights) (Keep one) (Just j) w

abbrev OwnQpu : Admitted → ℕ → ℕ → ℕ → Qpu → Type 0
OwnQpu one j = QpuLeft (λ i. one.rights) (Keep one) (Just j)

-- The job is there, and what is left of all units for it takes at most n steps.
record IsOwn (d : Day) (j w n : ℕ) : Type 0 where
  inside : j < length d.jobs
  left : Own (admitted_at d.jobs j) j w n d.state.units

record IsOwnLess (d : Day) (j w n cost stay : ℕ) : Type 0 where
  rest : ℕ
  own : IsOwn d j w rest
  less : rest + cost ≤ n + (1 + w) * stay

as_much : (d : Day) (j w n stay : ℕ) → IsOwn d j w n → IsOwnLess d j w n 0 stay
as_much d j w n stay own = record { rest = n; own = own; less = omega arith }

-- Nothing is left where the job has nothing.
slot_none : (one : Admitted) (j : ℕ) (slot : Option Thread) → IfSome slot (λ t. t.job ≢ j) → SlotLeft (λ i. one.rights) (Keep one) (Just j) 0 slot
slot_none one j None none = tt
slot_none one j (Some t) none = λ own. absurd (none (same t.job j own))

queue_none : (j : ℕ) (requests : List Request) → Every (λ request. request.job ≢ j) requests → request_count (Just j) requests ≡ 0
queue_none j [] none = refl
queue_none j (request ∷ requests) none =
    let other : request.job ≢ j = none.0 in
    let off : (request.job == j) ≡ false = grind (arith, common_steps, nat_tests, other) in
    let here : one_if (request.job == j) ≡ 0 = ap one_if off in
    let later = queue_none j requests none.1 in
    let counts : request_count (Just j) (request ∷ requests) ≡ one_if (request.job == j) + request_count (Just j) requests = sum_by-cons (λ r. if r.job == j then 1 else 0) request requests in
    omega (arith, here, later, counts)

each_none : (one : Admitted) (j k : ℕ) (qpus : List Qpu) → Every (HasNoneOf j) qpus → EachWithin (OwnQpu one j) k 0 qpus
each_none one j k [] none = tt
each_none one j k (q ∷ qpus) none =
    let queue0 = queue_none j q.queue0.items none.0.queue0 in
    let queue1 = queue_none j q.queue1.items none.0.queue1 in
    (0, record { firsts = 0; others = 0; first = slot_none one j q.first none.0.first; other = slot_none one j q.other none.0.other; sum = omega (arith, queue0, queue1) }, omega arith, each_none one j (k + 1) qpus none.1)

each_zero : (P : ℕ → ℕ → Lists → Type 0) (k : ℕ) (xs : List Lists) → ((i number : ℕ) → number ≡ k + i → i < length xs → P number 0 (job_at xs i)) → EachWithin P k 0 xs
each_zero P k [] each = tt
each_zero P k (s ∷ xs) each = (0, each 0 k (omega arith) (omega arith), omega arith, each_zero P (k + 1) xs (λ i number is below. each (suc i) number (omega (arith, is)) (omega (arith, below))))

-- one more, which has a share
each_more : (P : ℕ → ℕ → Lists → Type 0) (k n share m : ℕ) (xs : List Lists) (s : Lists) → EachWithin P k n xs → n + share ≤ m → ((i : ℕ) → i ≡ k + length xs → P i share s) → EachWithin P k m (xs ++ s ∷ [])
each_more P k n share m [] s all fits more = (share, more k (omega arith), omega (arith, fits), tt)
each_more P k n share m (x ∷ xs) s all fits more =
    let inside : all.0 ≤ n = all.2 in
    (all.0, all.1, omega (arith, inside, fits), each_more P (k + 1) (n - all.0) share (m - all.0) xs s all.3 (omega (arith, inside, fits)) (λ i is. more i (omega (arith, is))))

own_is : (i j : ℕ) (work : Bool) → IsTrue (i == j && work) → i ≡ j
own_is i j work own = same i j (and_parts (i == j) work own).0

quiet_off : (s : Lists) → IsQuiet s → IsTrue (has_binner_work s || has_renderer_work s) → ⊥
quiet_off s quiet on = false≢true (sym quiet.renderer ∙ subst (λ b. IsTrue (b || has_renderer_work s)) quiet.binner on)

none_own : (one : Admitted) (j w n : ℕ) (u : Units) → IsQuiet (job_at u.jobs j) → EachWithin (OwnQpu one j) 0 0 u.qpus → Own one j w n u
none_own one j w n u quiet none = record {
  of_jobs = 0;
  of_qpus = 0;
  jobs = each_zero (OwnLists one j w) 0 u.jobs (λ i number is below own.
      let s : Lists = job_at u.jobs i in
      let e : number ≡ j = own_is number j (has_binner_work s || has_renderer_work s) own in
      let here : j ≡ i = omega (arith, is, e) in
      absurd (quiet_off s (subst (λ k. IsQuiet (job_at u.jobs k)) here quiet) (and_parts (number == j) (has_binner_work s || has_renderer_work s) own).1));
  qpus = none;
  sum = omega arith;
}

-- So it is of a job that isn't there yet.
slot_before : (jobs : List Admitted) (slot : Option Thread) → IfSome slot (facts jobs).OfThread → IfSome slot (λ t. t.job ≢ length jobs)
slot_before jobs None known = tt
slot_before jobs (Some t) known = λ e. (let below = known.0 in omega (arith, e, below))

queue_before : (jobs : List Admitted) (requests : List Request) → Every (λ request. (facts jobs).OfAsk request.job request.ask) requests → Every (λ request. request.job ≢ length jobs) requests
queue_before jobs [] known = tt
queue_before jobs (request ∷ requests) known = ((λ e. (let below = known.0.0 in omega (arith, e, below))), queue_before jobs requests known.1)

qpu_before : (jobs : List Admitted) (q : Qpu) → QpuFine (facts jobs) q → HasNoneOf (length jobs) q
qpu_before jobs q fine = record {
  first = slot_before jobs q.first fine.first;
  other = slot_before jobs q.other fine.other;
  queue0 = queue_before jobs q.queue0.items fine.queue0;
  queue1 = queue_before jobs q.queue1.items fine.queue1;
}

admitted_own : (d : Day) (job : Job) (w n : ℕ) → IsKnown d → IsShortNow d w n job → IsOwn (happen d (Admits job)) (length d.jobs) w n
admitted_own d job w n known short =
    let j : ℕ = length d.jobs in
    let u : Units = d.state.units in
    let m : List ℕ = d.state.memory in
    let one : Admitted = record { rights = job.rights; plain = job.plain; first = m } in
    let long : length (d.jobs ++ one ∷ []) ≡ j + 1 = length-append d.jobs (one ∷ []) in
    let count = known.count in
    let left : Own one j w n (joined_by u job) = record {
      of_jobs = n;
      of_qpus = 0;
      jobs = each_more (OwnLists one j w) 0 0 n n u.jobs (job_start job.start)
          (each_zero (OwnLists one j w) 0 u.jobs (λ i number is below own. absurd (let e = own_is number j (has_binner_work (job_at u.jobs i) || has_renderer_work (job_at u.jobs i)) own in omega (arith, is, e, below, count))))
          (omega arith) (λ i is own. job_ends (job.rights ∷ []) (λ number. job.plain) m w 0 n job.start short);
      qpus = each_none one j 0 u.qpus (every-weaker (QpuFine (facts d.jobs)) (HasNoneOf j) (λ q fine. qpu_before d.jobs q fine) u.qpus known.units.qpus);
      sum = omega arith;
    } in
    record { inside = omega (arith, long); left = subst (λ own. Own own j w n (joined_by u job)) (sym (last_at d.jobs one j refl)) left }

-- A unit steps.
step_own : (d : Day) (event : Event) (j w n : ℕ) → IsKnown d → IsOwn d j w n → IsTrue (may d.state event)
    → StepLess (λ i. (admitted_at d.jobs j).rights) (Keep (admitted_at d.jobs j)) (Just j) w n (own_step j d (Steps event)) (own_stay j d (Steps event)) (step d.state event).state.units
unfolding ready turn
step_own d event j w n known own on =
    let m : List ℕ = d.state.memory in
    let u : Units = d.state.units in
    let jobs : List Rights = rights_in d.jobs in
    let t = unit_turn u event.unit event.words in
    let L = Inside (rights_of jobs t.who.job).region in
    let G = IsSafeAccess jobs in
    let P = UnitsFine (facts d.jobs) in
    let one : Admitted = admitted_at d.jobs j in
    let Q = StepLess (λ i. one.rights) (Keep one) (Just j) w n (own_step j d (Steps event)) (own_stay j d (Steps event)) in
    let here : Keep one m = every_nth (Holds m) d.jobs j own.inside known.holds in
    let both = keeps_both t.who L G P Q t.plan m (keeps d event known on) (unit_less (λ i. one.rights) (Keep one) (Just j) w n u event.unit event.words m here own.left on) in
    let now = keeps_result t.who L G (λ next. P next × Q next) (λ wild. wild.tame refl) t.plan m t.wild both in
    now.1

steps : (d : Day) (event : Event) (j w n : ℕ) → IsKnown d → IsOwn d j w n → IsTrue (may d.state event) → IsOwnLess (happen d (Steps event)) j w n (own_step j d (Steps event)) (own_stay j d (Steps event))
steps d event j w n known own on =
    let less = step_own d event j w n known own on in
    record { rest = less.rest; own = record { inside = own.inside; left = less.left }; less = less.less }

-- A program finds what the last one left.
slot_files : (rights : ℕ → Rights) (K : List ℕ → Type 0) (mine : ℕ → Bool) (n : ℕ) (files : Files) (slot : Option Thread) → SlotLeft rights K mine n slot → SlotLeft rights K mine n (option_map (with_files files) slot)
slot_files rights K mine n files None left = tt
slot_files rights K mine n files (Some t) left = λ own. still_left (rights t.job) K n t t.fresh files.a files.b t.results0.items t.results1.items (left own)

qpu_found : (rights : ℕ → Rights) (K : List ℕ → Type 0) (mine : ℕ → Bool) (k n : ℕ) (second : Bool) (files : Files) (q : Qpu) → QpuLeft rights K mine k n q → QpuLeft rights K mine k n (found_in second files q)
qpu_found rights K mine k n true files q left = record { firsts = left.firsts; others = left.others; first = left.first; other = slot_files rights K mine left.others files q.other left.other; sum = left.sum }
qpu_found rights K mine k n false files q left = record { firsts = left.firsts; others = left.others; first = slot_files rights K mine left.firsts files q.first left.first; other = left.other; sum = left.sum }

found_own : (one : Admitted) (j w n k : ℕ) (second : Bool) (files : Files) (u : Units) (found : Option Qpu) → (left : Own one j w n u) → IfSome found (Hole (OwnQpu one j) 0 left.of_qpus k k u.qpus) → Own one j w n (found_at u k second files found)
found_own one j w n k second files u None left hole = left
found_own one j w n k second files u (Some q) left hole = record {
  of_jobs = left.of_jobs;
  of_qpus = left.of_qpus;
  jobs = left.jobs;
  qpus = hole.put (found_in second files q) hole.share left.of_qpus (qpu_found (λ i. one.rights) (Keep one) (Just j) k hole.share second files q hole.known) (omega arith);
  sum = left.sum;
}

finds : (d : Day) (k : ℕ) (second : Bool) (files : Files) (j w n : ℕ) → IsOwn d j w n → IsOwn (happen d (Finds k second files)) j w n
finds d k second files j w n own =
    let u : Units = d.state.units in
    let one : Admitted = admitted_at d.jobs j in
    record { inside = own.inside; left = found_own one j w n k second files u (item_at u.qpus k) own.left (hole_at (OwnQpu one j) 0 own.left.of_qpus k k u.qpus (omega arith) own.left.qpus) }

-- Another job is admitted.
admits : (d : Day) (job : Job) (j w n : ℕ) → IsKnown d → IsOwn d j w n → IsOwn (happen d (Admits job)) j w n
admits d job j w n known own =
    let u : Units = d.state.units in
    let more : Admitted = record { rights = job.rights; plain = job.plain; first = d.state.memory } in
    let inside : j < length d.jobs = own.inside in
    let count = known.count in
    let long : length (d.jobs ++ more ∷ []) ≡ length d.jobs + 1 = length-append d.jobs (more ∷ []) in
    let left = own.left in
    let still : Own (admitted_at d.jobs j) j w n (joined_by u job) = record {
      of_jobs = left.of_jobs;
      of_qpus = left.of_qpus;
      jobs = each_more (OwnLists (admitted_at d.jobs j) j w) 0 left.of_jobs 0 left.of_jobs u.jobs (job_start job.start) left.jobs (omega arith)
          (λ i is counted. absurd (let e = own_is i j (has_binner_work (job_start job.start) || has_renderer_work (job_start job.start)) counted in omega (arith, is, e, inside, count)));
      qpus = left.qpus;
      sum = left.sum;
    } in
    record { inside = omega (arith, inside, long); left = subst (λ one. Own one j w n (joined_by u job)) (sym (still_at d.jobs more j inside)) still }

-- A job retires: this one, or another.
retires_by : (d : Day) (i j w n : ℕ) (b : Bool) → (i == j) ≡ b → Own (admitted_at d.jobs j) j w n d.state.units → HasNoWork d.state.units i → Own (admitted_at (without d.jobs i) j) j w n d.state.units
retires_by d i j w n true is left none =
    let own : HasNoWork d.state.units j = subst (HasNoWork d.state.units) (same i j is) none in
    none_own (admitted_at (without d.jobs i) j) j w n d.state.units (record { binner = own.binner; renderer = own.renderer }) (each_none (admitted_at (without d.jobs i) j) j 0 d.state.units.qpus own.qpus)
retires_by d i j w n false other left none =
    subst (λ one. Own one j w n d.state.units) (sym (without_others d.jobs i j (λ e. grind (arith, common_steps, nat_tests, other, e)))) left

retires : (d : Day) (i j w n : ℕ) → IsOwn d j w n → HasNoWork d.state.units i → IsOwn (happen d (Retires i)) j w n
retires d i j w n own none =
    let inside = own.inside in
    let long = without_long d.jobs i in
    record { inside = omega (arith, inside, long); left = retires_by d i j w n (i == j) refl own.left none }

-- The chip is reset.
quiet_at : (lists : List Lists) (j : ℕ) → IsQuiet (job_at (map (λ s. binner_ended (renderer_ended s)) lists) j)
quiet_at [] j = record { binner = refl; renderer = refl }
quiet_at (s ∷ lists) zero = record { binner = or_none _ (below_itself s.binner.end); renderer = or_none _ (below_itself s.renderer.end) }
quiet_at (s ∷ lists) (suc j) = quiet_at lists j

resets : (d : Day) (j w n : ℕ) → IsOwn d j w n → IsOwn (happen d Resets) j w n
resets d j w n own = record { inside = own.inside; left = none_own (admitted_at d.jobs j) j w n (units_stopped d.state.units) (quiet_at d.state.units.jobs j) (idle_left (λ i. (admitted_at d.jobs j).rights) (Keep (admitted_at d.jobs j)) (Just j) 0 12) }

-- Whatever happens.
happens_own : (d : Day) (one : Happening) (j w n : ℕ) → IsKnown d → IsOwn d j w n → MayHappen d one → IsOwnLess (happen d one) j w n (own_step j d one) (own_stay j d one)
happens_own d (Steps event) j w n known own on = steps d event j w n known own on
happens_own d (Changes m) j w n known own changed = as_much (happen d (Changes m)) j w n 0 (record { inside = own.inside; left = own.left })
happens_own d (Finds k second files) j w n known own may_find = as_much (happen d (Finds k second files)) j w n 0 (finds d k second files j w n own)
happens_own d (Admits job) j w n known own may_admit = as_much (happen d (Admits job)) j w n 0 (admits d job j w n known own)
happens_own d (Retires i) j w n known own none = as_much (happen d (Retires i)) j w n 0 (retires d i j w n own none)
happens_own d Resets j w n known own may_reset = as_much (happen d Resets) j w n 0 (resets d j w n own)

day_steps : (later : List Happening) (d : Day) (j w n : ℕ) → IsKnown d → IsOwn d j w n → AllMayHappen d later → own_steps j d later ≤ n + (1 + w) * own_stays j d later
day_steps [] d j w n known own may_happen = omega arith
day_steps (one ∷ later) d j w n known own may_happen =
    let less = happens_own d one j w n known own may_happen.0 in
    let ran = day_steps later (happen d one) j w less.rest (happens d one known may_happen.0) less.own may_happen.1 in
    one_more w n less.rest (own_step j d one) (own_stay j d one) (own_steps j (happen d one) later) (own_stays j (happen d one) later) less.less ran

pub admitted_jobs_end_law : AdmittedJobsEnd
admitted_jobs_end_law memory happenings job w n may_happen may_admit short later all =
    let d : Day = after (dawn memory) happenings in
    let known : IsKnown d = all_happen (dawn memory) happenings (dawn_known memory) may_happen in
    day_steps later (happen d (Admits job)) (length d.jobs) w n (happens d (Admits job) known may_admit) (admitted_own d job w n known short) all
