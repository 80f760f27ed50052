-- A job that a driver hands in has no more items than its binner list makes room for, whatever else comes and goes.
use Rattle.std.proofs.Common.{◌≡◌, ◌≤◌, ◌<◌, inl, inr, ℕ, zero, suc, ◌+◌, ◌*◌, ◌%◌, ◌==◌, ◌&&◌, Bool, true, false, IsTrue, if◌then◌else◌, List, [], ◌∷◌, ◌++◌, length, map, Option, Some, None, IfSome, refl, sym, ◌∙◌, ap, subst, arith}
use Rattle.std.proofs.lemmas.{Bool.false≢true, List.length-append}
use Rattle.std.proofs.Math.Nat.{mul-le-mul_left}
use Rattle.std.specs.Prelude.{◌⊎◌, ◌||◌, is_some, nat_lt, slice_index}
use Rattle.std.specs.List.{range_with_len, sum_by}
use Rattle.field_words.specs.declared.access.Actor.TheVariants.{Binner as TheBinner, Renderer as TheRenderer, Qpu as TheQpu, Tmu as TheTmu}
use Rattle.field_words.specs.declared.access.Actor.{Actor}
use Rattle.bin_list.specs.Packets.{packets}
use Rattle.machine_plan.specs.Regions.{Inside, Rights, rights_of, IsSafeAccess, HasReadOnly}
use Rattle.machine_plan.specs.{Choice.word_at, Glance.glance_result, Glance.Now, Glance.At}
use Rattle.machine_plan.proofs.Worlds.{keeps_result}
use Rattle.list_machine.specs.Binner.{binner_may, binner_ready, binner_plan}
use Rattle.list_machine.specs.Lists.{Lists, binner_of, renderer_of, binner_ended, renderer_ended}
use Rattle.list_machine.specs.Renderer.{has_renderer_work, may_pass, ready_in, renderer_ready, renderer_plan}
use Rattle.list_machine.specs.declared.state.{SubList.SubList, Work.Work}
use Rattle.list_law.proofs.Logs.{same, not_same}
use Rattle.machine_plan.specs.declared.launch.Free.{Free}
use Rattle.qpu_machine.specs.declared.state.Qpu.{Qpu}
use Rattle.machine.specs.State.{Units, Picked, renderer_job, job_at, job_start, item_at as processor_at}
use Rattle.machine.specs.Step.{Event, may, step, ready, turn, unit_turn, unit_job, number_or_zero}
use Rattle.machine_law.specs.{Units.EachAt, Units.UnitsFine}
use Rattle.machine_law.proofs.Owes.{PickedFine, first_fine}
use Rattle.job_format.specs.Model.{FileModel}
use Rattle.job_check.specs.{Emit.memory_of, Jobs.bin_list_of}
use Rattle.promises.specs.Holdings.{plain_of, job_rights, file_rights, start_of}
use Rattle.promises.specs.Steps.{room_of, stays, unit_stays, renderer_stays, one_if}
use Rattle.promises.specs.Days.{Admitted, Day, Files, Happening, Steps, Changes, Finds, Admits, Retires, Resets, HasNoWork, Job, admitted_at, after}
use Rattle.promises.specs.Days.{dawn, found_at, happen, rights_in}
use Rattle.promises.specs.{Bounded.longest_of, Bounded.job_bound, Bounded.bound_of, Drivers.MaySubmit, Drivers.job_in}
use Rattle.accepted_law.proofs.{BinWalking.bins_walk_law, ByJob.rights_are, Joining.all_ground, Joining.has_read_only, Joining.job_begins, Prepared.prepared_memories_agree_law}
use Rattle.accepted_ends.proofs.Files.{packets_are}
use Rattle.ends_law.proofs.Plans.{Comes, keeps_both, weaker}
use Rattle.day_law.specs.Day.{MayHappen, AllMayHappen}
use Rattle.day_law.proofs.{Alone.jobs_begin_alone_law, Days.all_happen, Days.dawn_known, Keeping.below_itself, Keeping.happens, Keeping.or_none, Known.IsKnown, Known.keeps}
use Rattle.day_law.proofs.Lists.{each_append, each_goes, last_at, still_at, without, without_long, without_others}
use Rattle.day_law.proofs.Own.{Holds, IsQuiet, every_nth, facts, solo, solo_plain}
use Rattle.day_ends.specs.Ends.{own_stay, own_stays}
use Rattle.driver_law.proofs.{Driver.all_may, Driver.may_be_admitted_law, Ends.submissions_end_law}
use Rattle.job_bound.specs.Items.{stays_at, renderer_stays_at, unit_stays_at, items_in, items_of}
use Rattle.job_bound.specs.Live.{own_item_stay, own_item_stays, IsBoundedAt, SubmissionsEndAtItems, KeepsLive}
use Rattle.job_bound.proofs.{Backs.none_without_loop, Holds.numbers_are}
use Rattle.job_bound.proofs.Puts.{all_come}
use Rattle.job_bound.proofs.Rooms.{AllKeep, JobKeeps, ListsKeep, RoomBegins, binner_turned, few_below, renderer_turned, start_keeps, stays_in, total_add, total_below, unit_keeps}

-- Of job j alone: it has no more items, and no work left, or all is known of it as if it were alone.
abbrev OwnKeeps : Admitted → ℕ → Lists → Type 0
OwnKeeps one most s = (length s.items ≤ most) × (IsQuiet s ⊎ JobKeeps (solo one) (solo_plain one) one.first 1 (λ number. most) 0 s)

abbrev OnlyOwn : Admitted → (j most : ℕ) → ℕ → Lists → Type 0
OnlyOwn one j most number s = number ≡ j → OwnKeeps one most s

alone : (one : Admitted) (most : ℕ) (s : Lists) → JobKeeps (solo one) (solo_plain one) one.first 1 (λ number. most) 0 s → OwnKeeps one most s
alone one most s keeps = (keeps.room.few, inr keeps)

-- What has no work left isn't ready.
or_left : (a b : Bool) → (a || b) ≡ false → (a ≡ false) × (b ≡ false)
or_left true b off = absurd cc
or_left false true off = absurd cc
or_left false false off = (refl, refl)

quiet_binner : (s : Lists) (work : Option Work) (free : Free) → (nat_lt s.binner.place s.binner.end || is_some work) ≡ false → binner_may s work free ≡ true → ⊥
quiet_binner s None free off on = let parts = or_left (nat_lt s.binner.place s.binner.end) false off in false≢true (sym parts.0 ∙ on)
quiet_binner s (Some work) free off on = let parts = or_left (nat_lt s.binner.place s.binner.end) true off in false≢true (sym parts.1)

quiet_renderer : (s : Lists) (inside : Option SubList) (m : List ℕ) → (nat_lt s.renderer.place s.renderer.end || is_some inside) ≡ false → glance_result (ready_in s inside) m ≡ true → ⊥
quiet_renderer s None m off on =
    let parts = or_left (nat_lt s.renderer.place s.renderer.end) false off in
    false≢true (sym (ap (λ b. glance_result (if b then At s.renderer.place 1 (λ head. Now (may_pass s (slice_index head 0))) else Now false) m) parts.0) ∙ on)
quiet_renderer s (Some sub) m off on = let parts = or_left (nat_lt s.renderer.place s.renderer.end) true off in false≢true (sym parts.1)

-- So a step of a list unit of the job keeps what is known.
own_binner : (one : Admitted) (j most number : ℕ) (s : Lists) (free : Free) (words m : List ℕ) → Holds m one → OwnKeeps one most s → glance_result (binner_ready s free) m ≡ true
    → Comes (binner_of number) (λ turned. OnlyOwn one j most number turned.lists) (binner_plan s free words) m
unfolding binner_ready
own_binner one j most number s free words m here (few, inl quiet) on = absurd (quiet_binner s s.binner.work free quiet.binner on)
own_binner one j most number s free words m here (few, inr keeps) on =
    weaker (binner_of number) (λ turned. JobKeeps (solo one) (solo_plain one) one.first 1 (λ k. most) 0 turned.lists) (λ turned. OnlyOwn one j most number turned.lists) (λ turned known. λ is. alone one most turned.lists known) (binner_plan s free words) m
    (binner_turned (binner_of number) (solo one) (solo_plain one) one.first 1 (λ k. most) 0 s free words m here keeps on)

own_renderer : (one : Admitted) (j most number : ℕ) (s : Lists) (free : Free) (words m : List ℕ) → Holds m one → OwnKeeps one most s → glance_result (renderer_ready s) m ≡ true
    → Comes (renderer_of number) (λ turned. OnlyOwn one j most number turned.lists) (renderer_plan s free words) m
unfolding renderer_ready
own_renderer one j most number s free words m here (few, inl quiet) on = absurd (quiet_renderer s s.renderer.inside m quiet.renderer on)
own_renderer one j most number s free words m here (few, inr keeps) on =
    weaker (renderer_of number) (λ turned. JobKeeps (solo one) (solo_plain one) one.first 1 (λ k. most) 0 turned.lists) (λ turned. OnlyOwn one j most number turned.lists) (λ turned known. λ is. alone one most turned.lists known) (renderer_plan s free words) m
    (renderer_turned (renderer_of number) (solo one) (solo_plain one) one.first 1 (λ k. most) 0 s free words m here keeps on)

binner_by : (one : Admitted) (j most number : ℕ) (s : Lists) (free : Free) (words m : List ℕ) (own : Bool) → (number == j) ≡ own → Holds m one → OnlyOwn one j most number s → glance_result (binner_ready s free) m ≡ true
    → Comes (binner_of number) (λ turned. OnlyOwn one j most number turned.lists) (binner_plan s free words) m
binner_by one j most number s free words m true is here known on = own_binner one j most number s free words m here (known (same number j is)) on
binner_by one j most number s free words m false other here known on =
    all_come (binner_of number) (λ turned. OnlyOwn one j most number turned.lists) (λ turned. λ is. absurd (not_same number j other is)) (binner_plan s free words) m

renderer_by : (one : Admitted) (j most number : ℕ) (s : Lists) (free : Free) (words m : List ℕ) (own : Bool) → (number == j) ≡ own → Holds m one → OnlyOwn one j most number s → glance_result (renderer_ready s) m ≡ true
    → Comes (renderer_of number) (λ turned. OnlyOwn one j most number turned.lists) (renderer_plan s free words) m
renderer_by one j most number s free words m true is here known on = own_renderer one j most number s free words m here (known (same number j is)) on
renderer_by one j most number s free words m false other here known on =
    all_come (renderer_of number) (λ turned. OnlyOwn one j most number turned.lists) (λ turned. λ is. absurd (not_same number j other is)) (renderer_plan s free words) m

own_keep : (one : Admitted) (j most : ℕ) (m : List ℕ) → Holds m one → ListsKeep (OnlyOwn one j most) m
own_keep one j most m here = record {
  binner = λ number s free words known on. binner_by one j most number s free words m (number == j) refl here known on;
  renderer = λ number s free words known on. renderer_by one j most number s free words m (number == j) refl here known on;
}

-- The job is there, and that is known of it.
record HasOwn (d : Day) (j most : ℕ) : Type 0 where
  inside : j < length d.jobs
  own : AllKeep (OnlyOwn (admitted_at d.jobs j) j most) d.state.units

-- A unit steps.
steps : (d : Day) (event : Event) (j most : ℕ) → IsKnown d → HasOwn d j most → IsTrue (may d.state event) → AllKeep (OnlyOwn (admitted_at d.jobs j) j most) (step d.state event).state.units
unfolding ready turn
steps d event j most known own on =
    let m : List ℕ = d.state.memory in
    let u : Units = d.state.units in
    let one : Admitted = admitted_at d.jobs j in
    let jobs : List Rights = rights_in d.jobs in
    let t = unit_turn u event.unit event.words in
    let L = Inside (rights_of jobs t.who.job).region in
    let G = IsSafeAccess jobs in
    let P = UnitsFine (facts d.jobs) in
    let Q = AllKeep (OnlyOwn one j most) in
    let here : Holds m one = every_nth (Holds m) d.jobs j own.inside known.holds in
    let both = keeps_both t.who L G P Q t.plan m (keeps d event known on) (unit_keeps (OnlyOwn one j most) u event.unit event.words m (own_keep one j most m here) own.own on) in
    let now = keeps_result t.who L G (λ next. P next × Q next) (λ wild. wild.tame refl) t.plan m t.wild both in
    now.1

-- A program finds registers.
finds : (one : Admitted) (j most k : ℕ) (second : Bool) (files : Files) (u : Units) (found : Option Qpu) → AllKeep (OnlyOwn one j most) u → AllKeep (OnlyOwn one j most) (found_at u k second files found)
finds one j most k second files u None own = own
finds one j most k second files u (Some q) own = own

-- Another job is admitted.
admits : (d : Day) (job : Job) (j most : ℕ) → IsKnown d → HasOwn d j most → HasOwn (happen d (Admits job)) j most
admits d job j most known own =
    let more : Admitted = record { rights = job.rights; plain = job.plain; first = d.state.memory } in
    let inside : j < length d.jobs = own.inside in
    let count = known.count in
    let long : length (d.jobs ++ more ∷ []) ≡ length d.jobs + 1 = length-append d.jobs (more ∷ []) in
    let P = OnlyOwn (admitted_at d.jobs j) j most in
    let all : EachAt P 0 (d.state.units.jobs ++ job_start job.start ∷ []) = each_append P 0 d.state.units.jobs (job_start job.start) own.own (λ i is. λ e. absurd (omega (arith, inside, count, is, e))) in
    record { inside = omega (arith, inside, long); own = subst (λ one. EachAt (OnlyOwn one j most) 0 (d.state.units.jobs ++ job_start job.start ∷ [])) (sym (still_at d.jobs more j inside)) all }

-- A job retires: this one, or another.
quiet_each : (one other : Admitted) (j most n k : ℕ) (lists : List Lists) → j ≡ n + k → IsQuiet (job_at lists k) → EachAt (OnlyOwn one j most) n lists → EachAt (OnlyOwn other j most) n lists
quiet_each one other j most n k [] is quiet all = tt
quiet_each one other j most n zero (s ∷ lists) is quiet all =
    (λ e. ((all.0 e).0, inl quiet), each_goes (OnlyOwn one j most) (OnlyOwn other j most) (n + 1) lists (λ i next from known. λ e. absurd (omega (arith, is, from, e))) all.1)
quiet_each one other j most n (suc k) (s ∷ lists) is quiet all =
    (λ e. absurd (omega (arith, is, e)), quiet_each one other j most (n + 1) k lists (omega (arith, is)) quiet all.1)

retires_by : (d : Day) (i j most : ℕ) (b : Bool) → (i == j) ≡ b → AllKeep (OnlyOwn (admitted_at d.jobs j) j most) d.state.units → HasNoWork d.state.units i → AllKeep (OnlyOwn (admitted_at (without d.jobs i) j) j most) d.state.units
retires_by d i j most true is all none =
    let own : HasNoWork d.state.units j = subst (HasNoWork d.state.units) (same i j is) none in
    quiet_each (admitted_at d.jobs j) (admitted_at (without d.jobs i) j) j most 0 j d.state.units.jobs (omega arith) (record { binner = own.binner; renderer = own.renderer }) all
retires_by d i j most false other all none =
    subst (λ one. AllKeep (OnlyOwn one j most) d.state.units) (sym (without_others d.jobs i j (λ e. not_same i j other (sym e)))) all

retires : (d : Day) (i j most : ℕ) → HasOwn d j most → HasNoWork d.state.units i → HasOwn (happen d (Retires i)) j most
retires d i j most own none =
    let inside = own.inside in
    let long = without_long d.jobs i in
    record { inside = omega (arith, inside, long); own = retires_by d i j most (i == j) refl own.own none }

-- The chip is reset.
reset_each : (one : Admitted) (j most n : ℕ) (lists : List Lists) → EachAt (OnlyOwn one j most) n lists → EachAt (OnlyOwn one j most) n (map (λ s. binner_ended (renderer_ended s)) lists)
reset_each one j most n [] all = tt
reset_each one j most n (s ∷ lists) all =
    (λ e. ((all.0 e).0, inl (record { binner = or_none _ (below_itself s.binner.end); renderer = or_none _ (below_itself s.renderer.end) })), reset_each one j most (n + 1) lists all.1)

-- Whatever happens.
happens_own : (d : Day) (one : Happening) (j most : ℕ) → IsKnown d → HasOwn d j most → MayHappen d one → HasOwn (happen d one) j most
happens_own d (Steps event) j most known own on = record { inside = own.inside; own = steps d event j most known own on }
happens_own d (Changes m) j most known own changed = record { inside = own.inside; own = own.own }
happens_own d (Finds k second files) j most known own may_find = record { inside = own.inside; own = finds (admitted_at d.jobs j) j most k second files d.state.units (processor_at d.state.units.qpus k) own.own }
happens_own d (Admits job) j most known own may_admit = admits d job j most known own
happens_own d (Retires i) j most known own none = retires d i j most own none
happens_own d Resets j most known own may_reset = record { inside = own.inside; own = reset_each (admitted_at d.jobs j) j most 0 d.state.units.jobs own.own }

-- Where its renderer stays, it is at one of its items.
none_if : (b : Bool) (most : ℕ) → one_if (b && false) ≤ most
none_if true most = omega arith
none_if false most = omega arith

own_at : (most : ℕ) (s : Lists) (words : List ℕ) (own : Bool) → (own ≡ true → length s.items ≤ most) → one_if (own && stays s words) ≤ total_below most (λ n. one_if (own && stays_at n s words))
unfolding stays
own_at most s words true few = stays_in most s (word_at words 0 % 4 == 3) s.renderer.inside (few refl)
own_at most s words false few = omega arith

renderer_at : (one : Admitted) (j most : ℕ) (found : Option (Picked Lists)) (words : List ℕ) → IfSome found (PickedFine (OnlyOwn one j most))
    → one_if ((number_or_zero found == j) && renderer_stays found words) ≤ total_below most (λ n. one_if (renderer_stays_at j n found words))
renderer_at one j most None words known = none_if (0 == j) _
renderer_at one j most (Some r) words known = own_at most r.item words (r.number == j) (λ is. (known (same r.number j is)).0)

unit_at : (one : Admitted) (j most : ℕ) (u : Units) (unit : Actor) (words : List ℕ) → AllKeep (OnlyOwn one j most) u → one_if ((unit_job u unit == j) && unit_stays u unit words) ≤ total_below most (λ n. one_if (unit_stays_at j n u unit words))
unit_at one j most u TheBinner words all = none_if (unit_job u TheBinner == j) _
unit_at one j most u TheRenderer words all = renderer_at one j most (renderer_job u) words (first_fine (OnlyOwn one j most) has_renderer_work 0 u.jobs all)
unit_at one j most u (TheQpu k) words all = none_if (unit_job u (TheQpu k) == j) _
unit_at one j most u (TheTmu k n) words all = none_if (unit_job u (TheTmu k n) == j) _

stay_at : (d : Day) (one : Happening) (j most : ℕ) → HasOwn d j most → own_stay j d one ≤ total_below most (λ n. own_item_stay j n d one)
stay_at d (Steps event) j most own = unit_at (admitted_at d.jobs j) j most d.state.units event.unit event.words own.own
stay_at d (Changes m) j most own = omega arith
stay_at d (Finds k second files) j most own = omega arith
stay_at d (Admits job) j most own = omega arith
stay_at d (Retires i) j most own = omega arith
stay_at d Resets j most own = omega arith

day_stays : (later : List Happening) (d : Day) (j most : ℕ) → IsKnown d → HasOwn d j most → AllMayHappen d later → own_stays j d later ≤ total_below most (λ n. own_item_stays j n d later)
day_stays [] d j most known own on = omega arith
day_stays (one ∷ later) d j most known own on =
    let here = stay_at d one j most own in
    let ran = day_stays later (happen d one) j most (happens d one known on.0) (happens_own d one j most known own on.0) on.1 in
    let both = total_add most (λ n. own_item_stay j n d one) (λ n. own_item_stays j n (happen d one) later) in
    omega (arith, here, ran, both)

-- What is known when it is admitted.
none_yet : (one : Admitted) (j most n : ℕ) (lists : List Lists) → n + length lists ≤ j → EachAt (OnlyOwn one j most) n lists
none_yet one j most n [] below = tt
none_yet one j most n (s ∷ lists) below = (λ e. absurd (omega (arith, below, e)), none_yet one j most (n + 1) lists (omega (arith, below)))

admitted_own : (d : Day) (job : Job) (most : ℕ) → IsKnown d → RoomBegins (job.rights ∷ []) (λ number. job.plain) d.state.memory 1 (λ number. most) 0 job.start → HasOwn (happen d (Admits job)) (length d.jobs) most
admitted_own d job most known room =
    let j : ℕ = length d.jobs in
    let u : Units = d.state.units in
    let one : Admitted = record { rights = job.rights; plain = job.plain; first = d.state.memory } in
    let long : length (d.jobs ++ one ∷ []) ≡ j + 1 = length-append d.jobs (one ∷ []) in
    let count = known.count in
    let keeps : OwnKeeps one most (job_start job.start) = alone one most (job_start job.start) (start_keeps (job.rights ∷ []) (λ number. job.plain) d.state.memory 1 (λ number. most) 0 job.start room) in
    let all : EachAt (OnlyOwn one j most) 0 (u.jobs ++ job_start job.start ∷ []) = each_append (OnlyOwn one j most) 0 u.jobs (job_start job.start) (none_yet one j most 0 u.jobs (omega (arith, count))) (λ i is. λ e. keeps) in
    record { inside = omega (arith, long); own = subst (λ own. EachAt (OnlyOwn own j most) 0 (u.jobs ++ job_start job.start ∷ [])) (sym (last_at d.jobs one j refl)) all }

submitted_room : (d : Day) (f : FileModel) (j : ℕ) → MaySubmit d f j → RoomBegins (job_rights f j ∷ []) (λ number. plain_of f j) d.state.memory 1 (λ number. items_in f j) 0 (start_of f j)
unfolding job_begins jobs_begin_alone_law items_in
submitted_room d f j may =
    let first : List ℕ = memory_of f in
    let m : List ℕ = d.state.memory in
    let has : HasReadOnly (file_rights f) first m = has_read_only f m (prepared_memories_agree_law f may.accepted m may.prepared) in
    let grounds = all_ground f may.accepted.well_formed may.accepted.fits may.accepted.none j may.inside in
    let own : rights_of (file_rights f) j ≡ job_rights f j = rights_are f j may.inside in
    let is : room_of (packets (bin_list_of f j)) ≡ room_of (bins_walk_law f j first grounds).packets = ap room_of (packets_are f j first (bins_walk_law f j first grounds)) in
    subst (λ r. RoomBegins (r ∷ []) (λ number. plain_of f j) m 1 (λ number. room_of (packets (bin_list_of f j))) 0 (start_of f j)) own
    (record { inside = omega arith; begins = jobs_begin_alone_law (file_rights f) (plain_of f) first m j (start_of f j) has (job_begins f j grounds); room = omega (arith, is) })

pub submissions_end_at_items_law : SubmissionsEndAtItems
unfolding SubmissionsEndAtItems
submissions_end_at_items_law memory happenings f j may submits loopless later K on few =
    let d : Day = after (dawn memory) happenings in
    let job : Job = job_in f j in
    let known : IsKnown d = all_happen (dawn memory) happenings (dawn_known memory) (all_may (dawn memory) happenings may) in
    let begun : IsKnown (happen d (Admits job)) = happens d (Admits job) known (may_be_admitted_law d f j submits) in
    let bounded = submissions_end_law memory happenings f j may submits loopless later on in
    let at = day_stays later (happen d (Admits job)) (length d.jobs) (items_in f j) begun (admitted_own d job (items_in f j) known (submitted_room d f j submits)) on in
    let each = few_below (items_in f j) K (λ n. own_item_stays (length d.jobs) n (happen d (Admits job)) later) few in
    let stays : own_stays (length d.jobs) (happen d (Admits job)) later ≤ K * items_in f j = omega (arith, at, each) in
    let more = mul-le-mul_left (1 + longest_of f) stays in
    omega (arith, bounded, more)

-- A file of one job has the bound of that job.
only_one : (number : ℕ → ℕ) (n : ℕ) → n ≡ 1 → sum_by number (range_with_len 0 n) ≡ number 0
only_one number n one =
    let first : 0 + number 0 ≡ number 0 = omega arith in
    ap (λ k. sum_by number (range_with_len 0 k)) one ∙ first

pub keeps_live : (f : FileModel) → length f.jobs ≡ 1 → KeepsLive f
unfolding SubmissionsEndAtItems bound_of items_of
keeps_live f one most w items wait memory happenings is may submits =
    let B = λ (longest steps count : ℕ). IsBoundedAt (after (dawn memory) happenings) longest steps count (job_in f 0) in
    let numbers = numbers_are f most (w + 1) items wait is in
    let loopless = (none_without_loop f).0 numbers.none in
    let most_is : job_bound f 0 ≡ most = sym (only_one (job_bound f) (length f.jobs) one) ∙ numbers.most_is in
    let items_is : items_in f 0 ≡ items = sym (only_one (items_in f) (length f.jobs) one) ∙ numbers.items_is in
    let stay = numbers.stay_is in
    let bounded : B (longest_of f) (job_bound f 0) (items_in f 0) = submissions_end_at_items_law memory happenings f 0 may submits loopless in
    subst (λ k. B w most k) items_is (subst (λ k. B w k (items_in f 0)) most_is (subst (λ k. B k (job_bound f 0) (items_in f 0)) (omega (arith, stay)) bounded))
