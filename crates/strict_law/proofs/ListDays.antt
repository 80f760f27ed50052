-- Where only strict jobs are admitted, no binner executes a packet that is forbidden.
use Rattle.std.proofs.Common.{◌≡◌, ◌≢◌, ◌<◌, ℕ, ◌+◌, ◌==◌, Bool, true, Option, Some, None, List, [], ◌∷◌, ◌++◌, length, inl, inr, sym, ◌∙◌, subst, arith, if◌then◌else◌}
use Rattle.std.proofs.lemmas.{Bool.eq-eqb, Bool.true≢false, Bool.ne_eqb, List.length-append}
use Rattle.std.specs.Prelude.{◌⊎◌}
use Rattle.machine_plan.specs.{declared.launch.Free.Free, Glance.glance_result}
use Rattle.machine_plan.specs.Regions.{Every}
use Rattle.list_machine.specs.{Binner.has_binner_work, Binner.binner_ready, Binner.binner_plan, Renderer.renderer_ready, Renderer.renderer_plan}
use Rattle.list_machine.specs.Lists.{Lists, binner_of, renderer_of}
use Rattle.qpu_machine.specs.declared.state.Qpu.{Qpu}
use Rattle.machine.specs.State.{item_at, job_start, no_job}
use Rattle.machine.specs.Step.{Event, may}
use Rattle.ends_law.proofs.Plans.{Comes, weaker}
use Rattle.day_law.specs.Day.{MayHappen, AllMayHappen}
use Rattle.promises.specs.Days.{Admitted, Day, Files, Happening, Steps, Changes, Finds, Admits, Retires, Resets, HasNoWork, Job, admitted_at, after}
use Rattle.promises.specs.Days.{dawn, found_at, happen, units_stopped}
use Rattle.day_law.proofs.Own.{solo, Holds, IsQuiet, every_nth, binner_done, renderer_done, facts}
use Rattle.day_law.proofs.Lists.{each_goes, each_but, each_append, still_at, last_at, without, without_long, without_others}
use Rattle.day_law.proofs.{Known.IsKnown, Keeping.all_quiet, Keeping.happens, Days.dawn_known}
use Rattle.strict_law.specs.{Days.AdmitsStrict, Days.AdmitStrict, Kept.kept_then}
use Rattle.strict_law.proofs.WatchDays.{step_known}
use Rattle.strict_law.specs.Lists.{ExecutesPacket, Executed, IsForbiddenPacket, executed_by, executed_kept, executed_of, StrictBinnersObey}
use Rattle.strict_law.proofs.{Binners.BinGoes, Binners.ListsGo, Binners.binner_goes, Binners.renderer_stays}
use Rattle.strict_law.proofs.Lists.{Goes, EachGoes, unit_goes, picks, lists_obey, job_goes}

-- What is known of a job speaks of its own rights, and of the memory in which it was admitted.
abbrev OwnLists : Admitted → List (List ℕ) → Lists → Type 0
OwnLists one executed s = ListsGo (λ m. Holds m one) executed s

abbrev OfJob : List Admitted → ℕ → List (List ℕ) → Lists → Type 0
OfJob jobs j executed s = IsQuiet s ⊎ ((j < length jobs) × OwnLists (admitted_at jobs j) executed s)

-- What that says in a memory that each job holds.
binner_says : (jobs : List Admitted) (m : List ℕ) → Every (Holds m) jobs → (j : ℕ) (executed : List (List ℕ)) (s : Lists) (free : Free) (words : List ℕ) → OfJob jobs j executed s → glance_result (binner_ready s free) m ≡ true
    → Comes (binner_of j) (λ turned. OfJob jobs j (executed_by s.binner.work s.binner.place m executed) turned.lists) (binner_plan s free words) m
unfolding binner_ready
binner_says jobs m holds j executed s free words (inl quiet) on = absurd (binner_done s s.binner.work free quiet.binner on)
binner_says jobs m holds j executed s free words (inr known) on =
    let one : Admitted = admitted_at jobs j in
    let next : List (List ℕ) = executed_by s.binner.work s.binner.place m executed in
    weaker (binner_of j) (λ turned. OwnLists one next turned.lists) (λ turned. OfJob jobs j next turned.lists) (λ turned own. inr (known.0, own)) (binner_plan s free words) m
    (binner_goes (binner_of j) (λ k. Holds k one) executed s free words m (every_nth (Holds m) jobs j known.0 holds) known.1 on)

renderer_says : (jobs : List Admitted) (m : List ℕ) (j : ℕ) (executed : List (List ℕ)) (s : Lists) (free : Free) (words : List ℕ) → OfJob jobs j executed s → glance_result (renderer_ready s) m ≡ true
    → Comes (renderer_of j) (λ turned. OfJob jobs j executed turned.lists) (renderer_plan s free words) m
unfolding renderer_ready
renderer_says jobs m j executed s free words (inl quiet) on = absurd (renderer_done s s.renderer.inside m quiet.renderer on)
renderer_says jobs m j executed s free words (inr known) on =
    let one : Admitted = admitted_at jobs j in
    weaker (renderer_of j) (λ turned. OwnLists one executed turned.lists) (λ turned. OfJob jobs j executed turned.lists) (λ turned own. inr (known.0, own)) (renderer_plan s free words) m
    (renderer_stays (renderer_of j) (λ place end. BinGoes (λ k. Holds k one) executed place end) s free words m known.1)

says : (jobs : List Admitted) (m : List ℕ) → Every (Holds m) jobs → Goes (OfJob jobs) m
says jobs m holds = record { binner = binner_says jobs m holds; renderer = renderer_says jobs m }

abbrev GoesNow : Day → Executed → Type 0
GoesNow d executed = EachGoes (OfJob d.jobs) executed d.state.units

-- a job's lists
job_goes_on : (jobs others : List Admitted) (j : ℕ) (executed : List (List ℕ)) (s : Lists) → (j < length jobs → j < length others) → (j < length jobs → admitted_at others j ≡ admitted_at jobs j) → OfJob jobs j executed s → OfJob others j executed s
job_goes_on jobs others j executed s wider same (inl quiet) = inl quiet
job_goes_on jobs others j executed s wider same (inr known) = inr (wider known.0, subst (λ one. OwnLists one executed s) (sym (same known.0)) known.1)

-- the packets of a job that was there before another one
before_others : (jobs : List Admitted) (count j : ℕ) (executed : Executed) (s : Lists) → count ≡ length jobs → OfJob jobs j (executed j) s → OfJob jobs j (if j == count then [] else executed j) s
before_others jobs count j executed s is (inl quiet) = inl quiet
before_others jobs count j executed s is (inr known) =
    let below = known.0 in
    let other : j ≢ count = λ e. omega (arith, e, is, below) in
    inr (known.0, subst (λ here. OwnLists (admitted_at jobs j) (if here then [] else executed j) s) (sym (ne_eqb j count other)) known.1)

-- A job is admitted.
admits : (d : Day) (job : Job) (executed : Executed) → IsKnown d → GoesNow d executed → AdmitsStrict d (Admits job) → GoesNow (happen d (Admits job)) (kept_then executed_kept d (Admits job) executed)
admits d job executed known goes begins =
    let one : Admitted = record { rights = job.rights; plain = job.plain; first = d.state.memory } in
    let jobs : List Admitted = d.jobs in
    let all : List Admitted = jobs ++ one ∷ [] in
    let long : length all ≡ length jobs + 1 = length-append jobs (one ∷ []) in
    let count : length d.state.units.jobs ≡ length jobs = known.count in
    let wider : (j : ℕ) → j < length jobs → j < length all = λ j below. omega (arith, below, long) in
    let next : Executed = kept_then executed_kept d (Admits job) executed in
    let first : ListsGo (λ m. Holds m one) [] (job_start job.start) = job_goes (solo one) (λ number. job.plain) d.state.memory 0 job.start begins in
    each_append (λ j s. OfJob all j (next j) s) 0 d.state.units.jobs (job_start job.start)
    (each_goes (λ j s. OfJob jobs j (executed j) s) (λ j s. OfJob all j (next j) s) 0 d.state.units.jobs
    (λ j lists from there. job_goes_on jobs all j (next j) lists (wider j) (still_at jobs one j) (before_others jobs (length d.state.units.jobs) j executed lists count there)) goes)
    (λ j is.
    let none : OwnLists one (next j) (job_start job.start) = subst (λ here. OwnLists one (if here then [] else executed j) (job_start job.start)) (sym (eq-eqb j (length d.state.units.jobs) (omega (arith, is)))) first in
    inr (omega (arith, is, count, long), subst (λ own. OwnLists own (next j) (job_start job.start)) (sym (last_at jobs one j (omega (arith, is, count)))) none))

-- A job retires.
retires : (d : Day) (j : ℕ) (executed : Executed) → GoesNow d executed → HasNoWork d.state.units j → GoesNow (happen d (Retires j)) executed
retires d j executed goes none =
    let jobs : List Admitted = d.jobs in
    let rest : List Admitted = without jobs j in
    let wider : (i : ℕ) → i < length jobs → i < length rest = λ i below. omega (arith, below, without_long jobs j) in
    each_but (λ i s. OfJob jobs i (executed i) s) (λ i s. OfJob rest i (executed i) s) 0 j d.state.units.jobs no_job (λ i. inl (record { binner = none.binner; renderer = none.renderer }))
    (λ i lists other there. job_goes_on jobs rest i (executed i) lists (wider i) (λ below. without_others jobs j i (λ e. other (omega (arith, e)))) there) goes

-- The chip is reset: no job has work left.
stays_quiet : (jobs : List Admitted) (j : ℕ) (executed : List (List ℕ)) (s : Lists) → (facts []).OfJob j s → OfJob jobs j executed s
stays_quiet jobs j executed s (inl quiet) = inl quiet
stays_quiet jobs j executed s (inr known) = let below = known.0 in absurd (omega (arith, below))

-- A program finds what the last one left in the files: the lists stay as they are.
finds_same : (d : Day) (k : ℕ) (second : Bool) (files : Files) (found : Option Qpu) (executed : Executed) → GoesNow d executed → EachGoes (OfJob d.jobs) executed (found_at d.state.units k second files found)
finds_same d k second files None executed goes = goes
finds_same d k second files (Some q) executed goes = goes

-- Whatever happens.
happens_bins : (d : Day) (one : Happening) (executed : Executed) → IsKnown d → GoesNow d executed → MayHappen d one → AdmitsStrict d one → GoesNow (happen d one) (kept_then executed_kept d one executed)
happens_bins d (Steps event) executed known goes on begins =
    step_known Executed executed_kept (EachGoes (OfJob d.jobs)) d event executed known (λ u unit words was all may_step. unit_goes (OfJob d.jobs) was u unit words d.state.memory (says d.jobs d.state.memory known.holds) all may_step) goes on
happens_bins d (Changes m) executed known goes changed begins = goes
happens_bins d (Finds k second files) executed known goes may_find begins = finds_same d k second files (item_at d.state.units.qpus k) executed goes
happens_bins d (Admits job) executed known goes may_admit begins = admits d job executed known goes begins
happens_bins d (Retires j) executed known goes none begins = retires d j executed goes none
happens_bins d Resets executed known goes may_reset begins =
    each_goes (facts []).OfJob (λ j s. OfJob d.jobs j (executed j) s) 0 (units_stopped d.state.units).jobs (λ j s from quiet. stays_quiet d.jobs j (executed j) s quiet) (all_quiet [] 0 d.state.units.jobs)

record IsLast (d : Day) (executed : Executed) : Type 0 where
  known : IsKnown d
  goes : GoesNow d executed

all_bin : (d : Day) (happenings : List Happening) (executed : Executed) → IsKnown d → GoesNow d executed → AllMayHappen d happenings → AdmitStrict d happenings → IsLast (after d happenings) (executed_of d happenings executed)
all_bin d [] executed known goes may begins = record { known = known; goes = goes }
all_bin d (one ∷ later) executed known goes may begins =
    all_bin (happen d one) later (kept_then executed_kept d one executed) (happens d one known may.0) (happens_bins d one executed known goes may.0 begins.0) may.1 begins.1

obeys_by : (d : Day) (executed : Executed) (event : Event) (j : ℕ) (packet : List ℕ) → IsKnown d → (one : ExecutesPacket d.state event j packet) → OfJob d.jobs j (executed j) one.lists → has_binner_work one.lists ≡ true → IsForbiddenPacket d.state.memory (executed j) packet → ⊥
obeys_by d executed event j packet known one (inl quiet) works forbidden = true≢false (sym works ∙ quiet.binner)
obeys_by d executed event j packet known one (inr own) works forbidden =
    lists_obey (λ m. Holds m (admitted_at d.jobs j)) (executed j) d.state event j packet (every_nth (Holds d.state.memory) d.jobs j own.0 known.holds) one own.1 works forbidden

pub strict_binners_obey_law : StrictBinnersObey
strict_binners_obey_law memory happenings may begins event j packet one forbidden =
    let d : Day = after (dawn memory) happenings in
    let executed : Executed = executed_of (dawn memory) happenings (λ k. []) in
    let last : IsLast d executed = all_bin (dawn memory) happenings (λ k. []) (dawn_known memory) tt may begins in
    let picked = picks (OfJob d.jobs) executed d.state event j packet last.goes one in
    obeys_by d executed event j packet last.known one picked.known picked.works forbidden
